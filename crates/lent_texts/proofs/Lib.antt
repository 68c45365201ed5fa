-- The laws of the crate `lent_texts`.
pub mod Promises
