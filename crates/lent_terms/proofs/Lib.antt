-- What the proofs of the crate `lent_terms` share.
pub mod AddedLaws
pub mod PromiseLaws
pub mod Promises
