-- The laws of the crate `variant_terms`.
pub mod TurnLaws
pub mod WholeLaws
pub mod LongLaws
