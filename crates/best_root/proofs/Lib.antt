-- The laws of the crate `best_root`.
pub mod SingleLaws
