-- `pack::fill` meets its contract: the rows before the i-th are packed. Assumes nothing.
use Rattle.table_layout.proofs.pack.PackLaws.{packed-next}
use native.Mathlib.Omega.{arith}
use Rattle.table_layout.proofs.pack.fill.Goals as goal

pub loop-i-preserved : goal.loop-i-preserved
loop-i-preserved c =
    let g = c.args in
    let l = c.loop-i in
    let h = c.loop-i-test.true in
    rw c.put_one.ensures
    (packed-next g.order.now g.functions.now g.outputs.now g.starts.now g.children.now
    c.requires.pack_ready l.i h l.rows (omega (arith, l.auto.rows, c.requires.width_in_bounds, h)) l.invariant)
