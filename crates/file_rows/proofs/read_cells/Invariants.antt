-- `file_rows::read_cells` meets its contract: the cells read so far stand in their places, and the rest of the reading is
-- that of the whole. Assumes nothing.
use Rattle.file_rows.proofs.CellLaws.{Cells-read}
use Rattle.file_rows.proofs.read_cells.Given as goal

abbrev pub invariant-loop-j : goal.invariant-loop-j
invariant-loop-j l =
    Cells-read l.s l.sorts.kinds l.sorts.classes l.literals l.functions.outputs l.functions.arities l.functions.arguments
    l.f l.at l.from l.initial.cells l.cells l.p l.j
