-- The definitions of the crate `file_names`.
pub mod Name
