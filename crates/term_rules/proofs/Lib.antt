-- The laws of the crate `term_rules`.
pub mod TestLaws
pub mod SameLaws
pub mod ListLaws
pub mod SignLaws
pub mod KindLaws
pub mod SearchLaws
pub mod StepLaws
pub mod LayoutLaws
pub mod FactsLaws
pub mod Meaning
pub mod Adding
