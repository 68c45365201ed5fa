-- The laws of `best_reply`.
pub mod PlacedLaws
pub mod ReplyLaws
