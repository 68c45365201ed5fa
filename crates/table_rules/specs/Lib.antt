-- The definitions of the crate `table_rules`.
pub mod View
pub mod Order
pub mod Arrays
pub mod Rules
