-- The laws of the crate `term_one`.
pub mod AskedLaws
