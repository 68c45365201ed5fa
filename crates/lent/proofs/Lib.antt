-- What the proofs of the crate `lent` share.
pub mod RecordLaws
pub mod CopyLaws
pub mod StoreLaws
pub mod LeftLaws
pub mod Promises
