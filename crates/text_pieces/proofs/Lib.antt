-- The laws of the crate `text_pieces`.
pub mod PieceLaws
