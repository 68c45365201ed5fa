-- The laws of `literals`.
pub mod LiteralLaws
