-- The definitions of the crate `term_layout`.
pub mod Padded
pub mod Sound
