-- The definitions of the crate `term_order`.
pub mod TreeOrder
pub mod Heads
pub mod Zeros
pub mod Runs
