-- The laws of the crate `variant_answers`.
pub mod LoopLaws
pub mod AnswerLaws
