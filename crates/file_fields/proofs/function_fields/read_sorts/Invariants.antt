-- `function_fields::read_sorts` meets its contract: the argument sorts read so far stand in their places, and the rest
-- of the reading is that of the whole. Assumes nothing.
use Rattle.file_fields.proofs.function_fields.ArgumentLaws.{Arguments-read}
use Rattle.file_fields.proofs.function_fields.read_sorts.Given as goal

abbrev pub invariant-loop-j : goal.invariant-loop-j
invariant-loop-j l = Arguments-read l.s l.n l.at l.m l.from l.initial.arguments l.arguments l.p l.j
