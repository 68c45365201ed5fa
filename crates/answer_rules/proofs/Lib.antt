-- The laws of the crate `answer_rules`.
pub mod TermLaws
pub mod AgreeLaws
pub mod PlanLaws
pub mod Room
pub mod BestLaws
