-- The laws of `queries`.
pub mod QueryLaws
