-- The definitions of the crate `term_one`.
pub mod Wanted
pub mod One
