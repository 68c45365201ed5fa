-- The definitions of the crate `text_lines`.
pub mod Lines
pub mod Whole
pub mod Bound
