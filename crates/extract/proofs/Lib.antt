-- The laws of the crate `extract`.
pub mod LiteralLaws
pub mod VariantFacts
pub mod VerdictLaws
pub mod WayLaws
pub mod DeterminedLaws
pub mod VariantWayLaws
pub mod VariantDeterminedLaws
pub mod Promises
