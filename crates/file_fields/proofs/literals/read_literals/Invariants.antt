-- `literals::read_literals` meets its contract: the literals read so far stand in the array, and the rest of the
-- reading is that of the whole. Assumes nothing.
use Rattle.file_fields.proofs.literals.LiteralLaws.{Literals-read}
use Rattle.file_fields.proofs.literals.read_literals.Given as goal

abbrev pub invariant-loop-i : goal.invariant-loop-i
invariant-loop-i l = Literals-read l.s l.at l.n l.literals l.p l.i
