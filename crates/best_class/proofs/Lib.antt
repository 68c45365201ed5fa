-- The laws of the crate `best_class`.
pub mod ChildLaws
pub mod SolvedLaws
pub mod DecideLaws
