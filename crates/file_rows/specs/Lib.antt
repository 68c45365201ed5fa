-- The definitions of the crate `file_rows`.
pub mod In
pub mod Held
