-- The definitions of the crate `program_rules`.
pub mod Query
pub mod Asked
pub mod Lines
pub mod Step
pub mod Reply
pub mod Seen
pub mod Promises
