-- The laws of the crate `file_rows`.
pub mod CellLaws
pub mod RowLaws
pub mod InLaws
