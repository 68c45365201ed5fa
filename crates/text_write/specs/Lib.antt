-- The definitions of the crate `text_write`.
pub mod Widths
pub mod Piece
pub mod Seen
