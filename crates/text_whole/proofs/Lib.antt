-- The laws of the crate `text_whole`.
pub mod Alike
pub mod PlacedLaws
pub mod PlainLaws
pub mod LaidLaws
pub mod LetPlacedLaws
