-- The definitions of the crate `decimal`.
pub mod Decimal
pub mod Written
