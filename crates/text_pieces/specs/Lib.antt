-- The definitions of the crate `text_pieces`.
pub mod Pieces
pub mod Readable
pub mod Read
