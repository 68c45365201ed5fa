-- The laws of the crate `variant_sort`.
pub mod SortLaws
