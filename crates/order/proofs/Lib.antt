-- The laws of the crate `order`.
pub mod OrderLaws
pub mod WalkLaws
pub mod Sorting
pub mod Merging
