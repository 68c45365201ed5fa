-- The laws of the crate `variant_rows`.
pub mod KeptLaws
