-- The definitions of the crate `bits`.
pub mod Bits
pub mod Got
pub mod Field
