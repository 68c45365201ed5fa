-- The laws of `meaning`. What a term number means: definitions in specs/, theorems in proofs/.
pub mod NodeLaws
pub mod MeansLaws
pub mod TreeLaws
