-- The laws of the crate `term_many`.
pub mod FromLaws
mod LongLaws
pub mod TurnLaws
pub mod ManyLaws
mod StepsLaws
mod AsksLaws
mod PromiseLaws
mod ManyCases
pub mod Promises
