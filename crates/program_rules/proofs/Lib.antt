-- The laws of the crate `program_rules`.
pub mod Front
pub mod Replies
