-- The definitions of the crate `term_add`.
pub mod Interning
pub mod Held
