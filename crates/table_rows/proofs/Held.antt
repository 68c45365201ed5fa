-- The laws of `held`. A table in its arrays: what the scan and the flat rows read there is the table's.
pub mod PlaceLaws
pub mod KnownLaws
pub mod HeldLaws
pub mod ArrayLaws
pub mod RowLaws
