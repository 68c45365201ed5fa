-- The definitions of the crate `variants_root`.
pub mod Flat
pub mod Several
pub mod Chosen
