-- The laws of `whole`.
pub mod WholeLaws
mod WholeCases
