-- The definitions of the crate `extract`.
pub mod Returned
pub mod Terms
pub mod Told
pub mod First
pub mod Promises
