-- The laws of the crate `table_flat`.
pub mod ClassLaws
pub mod FillLaws
pub mod ChildLaws
pub mod RowLaws
pub mod FitLaws
