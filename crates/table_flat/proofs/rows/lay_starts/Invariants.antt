-- `table_flat::rows::lay_starts` meets its contract. The starts up to place `k` are laid. Assumes nothing.
use Rattle.table_flat.specs.Arrays.{arity_in}
use Rattle.table_flat.proofs.FillLaws.{Summing}
use Rattle.table_flat.proofs.rows.lay_starts.Given as goal

abbrev pub invariant-loop-k : goal.invariant-loop-k
invariant-loop-k l = Summing (arity_in l.arities l.rowfunctions) l.order l.starts l.at l.k
