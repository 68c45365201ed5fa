-- The laws of `row`.
pub mod ChildLaws
pub mod TurnLaws
