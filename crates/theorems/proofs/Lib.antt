-- The laws of the crate `theorems`.
pub mod Main
