-- The laws of `rules`. What a table says to the extractor: definitions in specs/.
pub mod ClassLaws
pub mod CoverLaws
pub mod AnswerLaws
