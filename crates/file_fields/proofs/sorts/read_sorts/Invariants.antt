-- `sorts::read_sorts` meets its contract: the sorts read so far stand in the arrays, and the rest of the reading is
-- that of the whole. Assumes nothing.
use Rattle.file_fields.proofs.sorts.SortLaws.{Sorts-read}
use Rattle.file_fields.proofs.sorts.read_sorts.Given as goal

abbrev pub invariant-loop-i : goal.invariant-loop-i
invariant-loop-i l = Sorts-read l.s l.at l.n l.sorts.kinds l.sorts.classes l.p l.total l.i
