-- The definitions of the crate `table_roots`.
pub mod Chosen
