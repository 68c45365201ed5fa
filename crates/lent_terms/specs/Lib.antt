-- The definitions of the crate `lent_terms`.
pub mod Lists
pub mod Promises
