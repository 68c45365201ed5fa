-- The laws of the crate `table_rows`.
pub mod Held
pub mod LoadLaws
