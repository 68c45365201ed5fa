-- The definitions of the crate `table_rows`.
pub mod Held
pub mod Standing
pub mod Rooted
pub mod Flattened
pub mod Opening
pub mod Loading
pub mod Given
