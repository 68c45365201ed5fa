-- The definitions of the crate `term`.
pub mod Answers
pub mod Calls
pub mod Orders
pub mod Outcomes
pub mod Promises
