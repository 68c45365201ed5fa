-- `table_flat::rows::lay_outputs` meets its contract. The rows below place `k` are laid. Assumes nothing.
use Rattle.table_flat.specs.Rows.{output_in}
use Rattle.table_flat.proofs.FillLaws.{Mapping}
use Rattle.table_flat.proofs.rows.lay_outputs.Given as goal

abbrev pub invariant-loop-k : goal.invariant-loop-k
invariant-loop-k l = Mapping (output_in l.bases l.arities l.outputs l.rowfunctions l.cells) l.order l.list l.k
