-- The definitions of the crate `best_class`: the best term of a class, over flat rows.
pub mod Flat
