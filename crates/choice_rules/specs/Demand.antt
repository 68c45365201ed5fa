-- The definitions of `demand`. Demand 3 over all rows of a table: definitions in specs/, theorems in proofs/.
pub mod Deriving
pub mod Orders
