-- The laws of the crate `table_rules`.
pub mod HasLaws
pub mod PickedLaws
pub mod QueueLaws
pub mod ArrayLaws
pub mod OrderLaws
pub mod ViewLaws
pub mod OrderCases
pub mod Rules
