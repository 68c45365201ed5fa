-- The definitions of the crate `variant_answers`: what the kept rows answer, over flat lists.
pub mod Kept
