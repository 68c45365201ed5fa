-- The laws of `bindings`.
pub mod FindLaws
pub mod MeetLaws
pub mod TableLaws
pub mod WantedLaws
