-- The definitions of the crate `table_layout`.
pub mod Rows
pub mod Packed
