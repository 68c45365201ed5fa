-- `price_marks::marks::scan` meets its contract: no row passed has a mark. Assumes nothing.
use Rattle.price_marks.proofs.NextLaws.{scan-goes-on}
use native.Mathlib.Omega.{arith}
use Rattle.price_marks.proofs.marks.scan.Goals as goal

pub loop-j-preserved : goal.loop-j-preserved
loop-j-preserved c =
    let a = c.args in
    let l = c.loop-j in
    scan-goes-on a.marks.now a.from a.to l.j c.loop-j-test.true l.invariant (omega arith)
