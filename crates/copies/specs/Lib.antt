-- The definitions of the crate `copies`.
pub mod Copied
