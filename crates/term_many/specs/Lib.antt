-- The definitions of the crate `term_many`.
pub mod Many
pub mod Made
pub mod Promises
