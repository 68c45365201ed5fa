-- The definitions of the crate `variant_terms`.
pub mod Rows
pub mod Turned
