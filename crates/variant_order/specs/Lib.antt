-- The definitions of the crate `variant_order`: the order of variants.
pub mod Keys
pub mod Arrays
pub mod Read
