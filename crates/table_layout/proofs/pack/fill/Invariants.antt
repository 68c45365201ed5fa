-- `pack::fill` meets its contract: the rows before the i-th are packed. Assumes nothing.
use Rattle.table_layout.specs.Packed.{Packed}
use Rattle.table_layout.proofs.pack.fill.Given as goal

abbrev pub invariant-loop-i : goal.invariant-loop-i
invariant-loop-i l = Packed l.order l.functions l.outputs l.starts l.children l.rows l.i
