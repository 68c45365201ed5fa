-- `table_flat::classes::number_sorts` meets its contract. The sorts below `s` are numbered. Assumes nothing.
use Rattle.table_flat.proofs.ClassLaws.{Numbering}
use Rattle.table_flat.proofs.classes.number_sorts.Given as goal

abbrev pub invariant-loop-s : goal.invariant-loop-s
invariant-loop-s l = Numbering l.sorts l.classes l.bases l.total l.s
