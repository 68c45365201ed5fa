-- The definitions of the crate `file_rules`.
pub mod Table
pub mod Sorts
pub mod Literals
pub mod Functions
pub mod Rows
pub mod File
pub mod Every
pub mod Accepted
pub mod Arrays
pub mod Held
pub mod Reading
pub mod Code
pub mod Bytes
pub mod Longest
