-- The definitions of the crate `order`.
pub mod Compare
pub mod Lawful
pub mod Sort
pub mod Least
pub mod Merge
pub mod Counting
