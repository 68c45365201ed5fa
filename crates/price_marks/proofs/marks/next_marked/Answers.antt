-- `price_marks::marks::next_marked` meets its contract: no row passed is marked. Assumes nothing.
use mathlib.Core.Path.{refl, ◌∙◌}
use Prim.Native.Nat.{◌+◌, ◌*◌, ◌/◌}
use Rattle.price_marks.proofs.NextLaws.{next-none, next-joins, next-joins-block}
use Rattle.price_marks.proofs.marks.next_marked.Goals as goal

pub loop-i-init : goal.loop-i-init
loop-i-init c =
    let a = c.args in
    (next-none a.marks.now a.blocks.now a.from c.requires.from_bound, refl)

pub in_block-j-requires : goal.in_block-j-requires
in_block-j-requires c =
    let l = c.loop-i in
    let room = c.requires.room in
    record {
      room = record { marks_room = room.marks_room; blocks_room = l.invariant.1 ∙ room.blocks_room };
      from_bound = c.loop-i-test.true;
      to_value = refl;
    }

pub shape_of-blocks-then-j-to : goal.shape_of-blocks-then-j-to
shape_of-blocks-then-j-to c = c.in_block-j.auto.blocks ∙ c.loop-i.invariant.1

pub returns-then-j-to : goal.returns-then-j-to
returns-then-j-to c =
    let a = c.args in
    let l = c.loop-i in
    let r = c.in_block-j in
    next-joins a.marks.now a.blocks.now l.blocks r.new.blocks a.from l.i (l.i / 32 * 32 + 32)
    r.result l.invariant.0 r.ensures

pub loop-i-preserved : goal.loop-i-preserved
loop-i-preserved c =
    let a = c.args in
    let l = c.loop-i in
    let r = c.in_block-j in (
      next-joins-block a.marks.now a.blocks.now l.blocks r.new.blocks a.from l.i (l.i / 32 * 32 + 32) r.result l.invariant.0 r.ensures c.if-j-to.false,
      r.auto.blocks ∙ l.invariant.1,
    )

pub shape_of-blocks : goal.shape_of-blocks
shape_of-blocks c = c.loop-i.invariant.1

pub returns : goal.returns
returns c = c.loop-i.invariant.0
