-- The laws of the crate `variant_order`.
pub mod RankLaws
