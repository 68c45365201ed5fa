-- The laws of the crate `price_marks`.
pub mod SkipLaws
pub mod ChainLaws
pub mod InRowLaws
pub mod LinkLaws
pub mod MarkLaws
pub mod NextLaws
pub mod TurnLaws
pub mod WalkLaws
pub mod RunLaws
