-- The laws of the crate `term_add`.
pub mod MatchLaws
pub mod AppendLaws
pub mod HeldLaws
