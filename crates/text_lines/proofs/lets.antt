-- The laws of `lets`.
pub mod WholeLaws
pub mod BoundLaws
pub mod LetLaws
