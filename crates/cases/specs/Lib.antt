-- The definitions of the crate `cases`.
pub mod Words
pub mod Tables
pub mod Cases
