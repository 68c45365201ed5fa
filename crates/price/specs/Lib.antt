-- The definitions of the crate `price`.
pub mod Marks
pub mod Solved
