-- The definitions of the crate `choice_rules`.
pub mod Rows
pub mod Deriving
pub mod Run
pub mod Edges
pub mod Answer
pub mod Promises
pub mod Demand
