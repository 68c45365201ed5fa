-- The laws of the crate `bits`.
pub mod BitsLaws
pub mod SplitLaws
pub mod FieldLaws
pub mod GotLaws
