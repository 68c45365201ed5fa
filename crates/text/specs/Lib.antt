-- The definitions of the crate `text`.
pub mod Told
pub mod LetTold
pub mod Promises
pub mod Checks
