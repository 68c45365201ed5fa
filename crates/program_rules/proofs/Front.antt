-- The laws of `front`. The front of an input decides its answer: promises in specs/, theorems in proofs/.
pub mod WithinLaws
pub mod PartLaws
pub mod FileLaws
pub mod InputLaws
pub mod Promises
