-- The laws of `parts`.
pub mod PartLaws
