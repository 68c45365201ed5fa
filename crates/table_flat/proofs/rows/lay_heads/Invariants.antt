-- `table_flat::rows::lay_heads` meets its contract. The rows below place `k` are laid. Assumes nothing.
use Rattle.table_flat.specs.Rows.{head_in}
use Rattle.table_flat.proofs.FillLaws.{Mapping}
use Rattle.table_flat.proofs.rows.lay_heads.Given as goal

abbrev pub invariant-loop-k : goal.invariant-loop-k
invariant-loop-k l = Mapping (head_in l.declared l.costs l.rowfunctions) l.order l.list l.k
