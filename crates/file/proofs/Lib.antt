-- The laws of the crate `file`.
pub mod ReadLaws
pub mod AnswerLaws
pub mod Promises
