-- The definitions of the crate `term_record`.
pub mod Flat
pub mod Buckets
