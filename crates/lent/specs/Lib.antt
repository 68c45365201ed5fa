-- The definitions of the crate `lent`.
pub mod Records
pub mod Copies
pub mod Promises
