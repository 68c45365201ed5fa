-- The definitions of the crate `best_root`: the best term of a root, once a table is laid flat.
pub mod Single
