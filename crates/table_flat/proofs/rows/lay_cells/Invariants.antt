-- `table_flat::rows::lay_cells` meets its contract. What is laid and the cells from `j` on give what is wanted. Assumes
-- nothing.
use Prim.Native.Nat.{◌+◌}
use mathlib.Core.List.{◌++◌}
use lib.ListN.{take}
use Rattle.table_flat.specs.Rows.{child_numbers}
use Rattle.table_flat.proofs.ChildLaws.{Laying}
use Rattle.table_flat.proofs.rows.lay_cells.Given as goal

abbrev pub invariant-loop-j : goal.invariant-loop-j
invariant-loop-j l =
    Laying l.kinds l.bases l.sorts l.cells (take l.at l.initial.list ++ child_numbers l.kinds l.bases l.sorts l.cells)
    l.list (l.at + l.j) l.j
