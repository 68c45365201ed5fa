-- The definitions of the crate `name`.
pub mod Name
pub mod Entries
