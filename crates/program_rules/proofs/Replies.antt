-- The laws of what the program answers.
pub mod RoomLaws
pub mod KnownLaws
