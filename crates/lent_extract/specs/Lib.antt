-- The definitions of the crate `lent_extract`: what its calls leave of the lent lists.
pub mod Left
pub mod Promises
pub mod Counted
