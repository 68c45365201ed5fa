-- The laws of `edges`.
pub mod RowLaws
pub mod WalkLaws
pub mod EndLaws
