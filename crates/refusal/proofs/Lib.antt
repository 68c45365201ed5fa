-- The laws of the crate `refusal`.
pub mod NumberLaws
