-- The definitions of the crate `file_fields`.
pub mod Answers
pub mod Put
