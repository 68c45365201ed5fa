-- The laws of `variants_reply`.
pub mod TextLaws
pub mod RoomLaws
