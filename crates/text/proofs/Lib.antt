-- The laws of the crate `text`.
pub mod ToldLaws
pub mod LetToldLaws
pub mod TwinLaws
pub mod NextLaws
pub mod PromiseLaws
pub mod Promises
