-- The laws of the crate `build`.
pub mod StandingLaws
pub mod BuildingLaws
pub mod AnswerLaws
pub mod PlanLaws
pub mod TurnLaws
pub mod OwnLaws
pub mod LongLaws
