-- The definitions of the crate `price_passes`: rows out of flat lists.
pub mod Flat
