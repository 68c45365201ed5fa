-- The definitions of the crate `text_whole`.
pub mod Alike
pub mod Placed
pub mod LetPlaced
pub mod Laid
