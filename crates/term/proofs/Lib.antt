-- The laws of the crate `term`.
pub mod CallLaws
pub mod DeterminedLaws
pub mod OrderLaws
mod AppendedLaws
mod AddsLaws
mod PromiseLaws
pub mod Promises
