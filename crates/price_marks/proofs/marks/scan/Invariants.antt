-- `price_marks::marks::scan` meets its contract: no row passed has a mark. Assumes nothing.
use Rattle.price_marks.specs.Marks.{Scanned}
use Rattle.price_marks.proofs.marks.scan.Given as goal

abbrev pub invariant-loop-j : goal.invariant-loop-j
invariant-loop-j l = Scanned l.marks l.from l.to l.j
