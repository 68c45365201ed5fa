-- The laws of the crate `cases`.
pub mod Cases
