-- `file_rows::read_rows` meets its contract: the rows read so far stand in the arrays, and the rest of the reading is that
-- of the whole. Assumes nothing.
use Rattle.file_rows.proofs.RowLaws.{Rows-read}
use Rattle.file_rows.proofs.read_rows.Given as goal

abbrev pub invariant-loop-i : goal.invariant-loop-i
invariant-loop-i l =
    Rows-read l.s l.sorts.kinds l.sorts.classes l.literals l.count l.functions.outputs l.functions.arities
    l.functions.arguments l.at l.n l.rows.functions l.rows.subsumed l.rows.cells l.p l.i
