-- The laws of the crate `price_passes`.
pub mod ChildLaws
pub mod WalkLaws
pub mod FlatLaws
pub mod RowLaws
pub mod PassLaws
pub mod RepeatLaws
pub mod EndLaws
