-- The definitions of the crate `lent_entries`.
pub mod Entries
