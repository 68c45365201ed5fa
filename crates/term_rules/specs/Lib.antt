-- The definitions of the crate `term_rules`.
pub mod Lent
pub mod WellFormed
pub mod Nodes
pub mod Adding
pub mod Facts
pub mod Trees
pub mod Growing
