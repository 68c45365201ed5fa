-- What the proofs of the crate `lent_extract` share.
pub mod LeftLaws
pub mod Promises
pub mod DeterminedLaws
pub mod CountedLaws
pub mod VariedLaws
