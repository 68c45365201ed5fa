-- `table_flat::rows::lay_children` meets its contract. The children of the rows below place `k` are laid. Assumes
-- nothing.
use Rattle.table_rules.proofs.PickedLaws.{Gathers}
use Rattle.table_flat.specs.Rows.{children_in}
use Rattle.table_flat.proofs.rows.lay_children.Given as goal

abbrev pub invariant-loop-r : goal.invariant-loop-r
invariant-loop-r l =
    Gathers (children_in l.kinds l.bases l.arities l.arguments l.rowfunctions l.cells) l.order l.list l.m l.r-index
