-- The laws of `sorts`.
pub mod SortLaws
