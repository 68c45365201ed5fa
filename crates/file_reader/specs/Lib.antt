-- The definitions of the crate `file_reader`.
pub mod Put
pub mod Parts
pub mod Outcome
pub mod Held
