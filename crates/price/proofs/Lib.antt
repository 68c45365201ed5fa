-- The laws of the crate `price`.
pub mod SolveLaws
pub mod ZeroLaws
