-- The laws of `candidates`.
pub mod FoundLaws
