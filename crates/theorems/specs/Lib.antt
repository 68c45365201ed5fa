-- The definitions of the crate `theorems`.
pub mod Main
