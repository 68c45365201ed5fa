-- The definitions of the crate `text_counts`.
pub mod Tallies
pub mod Met
pub mod Loans
pub mod Long
