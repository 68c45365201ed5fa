-- The definitions of the crate `file`.
pub mod Lent
pub mod Promises
