-- The definitions of the crate `table_flat`: flat class numbers and flat rows, as a table's arrays give them.
pub mod Classes
pub mod Rows
pub mod Arrays
