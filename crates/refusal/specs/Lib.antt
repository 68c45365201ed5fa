-- The definitions of the crate `refusal`.
pub mod Numbers
pub mod Answer
