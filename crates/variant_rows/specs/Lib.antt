-- The definitions of the crate `variant_rows`.
pub mod Candidates
pub mod Kept
