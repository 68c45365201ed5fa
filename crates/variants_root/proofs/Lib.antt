-- The laws of the crate `variants_root`.
pub mod SeveralLaws
pub mod PicksLaws
