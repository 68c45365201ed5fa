-- `price_marks::marks::mark_from` meets its contract: who is on the chain is marked or still to come. Assumes nothing.
use Prim.Native.Nat.{◌-◌}
use native.Mathlib.Omega.{arith}
use Rattle.price_marks.proofs.MarkLaws.{down-begins, down-goes-on, down_ends}
use Rattle.price_marks.proofs.marks.mark_from.Goals as goal

pub loop-g-init : goal.loop-g-init
loop-g-init c =
    let a = c.args in
    (search, down-begins a.next.now a.owner.now a.h a.marks.now.rows.now a.marks.now.blocks.now c.requires.room c.requires.links_ok)

pub bounds-marks-i : goal.bounds-marks-i
bounds-marks-i c =
    let low = c.requires.links_ok.owner_low (c.loop-g.g - 1) in
    rw c.from-i.ensures (omega (arith, c.loop-g.invariant.1.room.marks_room))

pub loop-g-smaller : goal.loop-g-smaller
loop-g-smaller c =
    let n = c.requires.links_ok.next_low (c.loop-g.g - 1) in
    rw c.from-g.ensures (omega (arith, c.loop-g-test.true))

pub loop-g-preserved : goal.loop-g-preserved
loop-g-preserved c =
    let a = c.args in
    let l = c.loop-g in (
      search,
      rw (c.from-i.ensures, c.from-g.ensures)
          (down-goes-on a.next.now a.owner.now a.h a.marks.now.rows.now a.marks.now.blocks.now l.g l.marks.rows.now l.marks.blocks.now
          c.requires.links_ok c.loop-g-test.true l.invariant.1),
    )

pub returns-clause-room : goal.returns-clause-room
returns-clause-room c = c.loop-g.invariant.1.room

pub returns-clause-marked : goal.returns-clause-marked
returns-clause-marked c =
    let a = c.args in
    let l = c.loop-g in
    down_ends a.next.now a.owner.now a.h a.marks.now.rows.now a.marks.now.blocks.now l.g l.marks.rows.now l.marks.blocks.now
    c.loop-g-test.false l.invariant.1
