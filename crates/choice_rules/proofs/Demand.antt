-- The laws of `demand`. Demand 3 over all rows of a table: definitions in specs/, theorems in proofs/.
pub mod OrderLaws
pub mod DemandLaws
