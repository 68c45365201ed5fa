-- The laws of `pack`.
pub mod PackLaws
