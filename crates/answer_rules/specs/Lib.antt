-- The definitions of the crate `answer_rules`: what best and variants answer.
pub mod Answers
pub mod Plan
pub mod Best
pub mod Variants
pub mod Room
pub mod Demand
