-- The laws of `kept_rows`.
pub mod SortLaws
pub mod RowLaws
pub mod BuildLaws
pub mod TermLaws
pub mod AnswerLaws
