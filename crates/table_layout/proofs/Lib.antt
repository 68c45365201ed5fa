-- The laws of the crate `table_layout`.
pub mod RowLaws
