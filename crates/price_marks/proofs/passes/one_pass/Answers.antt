-- `price_marks::passes::one_pass` meets its contract: the rows from the i-th on make the rest of the plain pass.
-- Assumes nothing.
use Rattle.price_passes.specs.Flat.{flat_of, state_of}
use Rattle.price_marks.proofs.WalkLaws.{walk-skips, walk-asks, walk-goes-on, walk_ends}
use Rattle.price_passes.proofs.FlatLaws.{rows-length}
use native.Mathlib.Omega.{arith}
use Rattle.price_marks.proofs.passes.one_pass.Goals as goal

pub returns-then-i-rows-clause-passed : goal.returns-then-i-rows-clause-passed
returns-then-i-rows-clause-passed c =
    let a = c.args in
    let l = c.loop-i in
    let k = c.next_marked-i in
    walk_ends (flat_of a.rows.now)
    (state_of a.costs.now a.ranks.now a.last) (state_of l.costs l.ranks l.l) l.marks.rows.now
    k.new.blocks k.result
    (walk-skips (flat_of a.rows.now) (state_of a.costs.now a.ranks.now a.last) (state_of l.costs l.ranks l.l) l.marks.rows.now l.marks.blocks.now l.i l.invariant.1 k.new.blocks k.result k.ensures k.auto.blocks)
    (omega (arith, c.if-i-rows.true, rows-length a.rows.now.outputs.now a.rows.now.heads.now a.rows.now.starts.now a.rows.now.children.now))

pub turn-l-requires : goal.turn-l-requires
turn-l-requires c =
    let a = c.args in
    let l = c.loop-i in
    let k = c.next_marked-i in
    let all-asked = walk-asks a.rows.now a.users.now l.marks.rows.now k.new.blocks (state_of a.costs.now a.ranks.now a.last)
    (state_of l.costs l.ranks l.l) k.result
    (walk-skips (flat_of a.rows.now) (state_of a.costs.now a.ranks.now a.last) (state_of l.costs l.ranks l.l) l.marks.rows.now l.marks.blocks.now l.i l.invariant.1 k.new.blocks k.result k.ensures k.auto.blocks)
    c.if-i-rows.false c.requires.outputs_bound c.requires.costs_len c.requires.ready in
    record { last_lt_top = all-asked.0; costs_len = all-asked.1.0; i_in_bounds = all-asked.1.1.0; ready = all-asked.1.1.1.0; room = all-asked.1.1.1.1.0; covered = all-asked.1.1.1.1.1 }

pub loop-i-smaller : goal.loop-i-smaller
loop-i-smaller c =
    let l = c.loop-i in
    let k = c.next_marked-i in
    omega (
      arith,
      k.ensures.forward,
      c.if-i-rows.false,
      c.requires.ready.flat.few_rows,
    )

pub loop-i-preserved : goal.loop-i-preserved
loop-i-preserved c =
    let a = c.args in
    let l = c.loop-i in
    let k = c.next_marked-i in
    let t = c.turn-l in
    let few = c.requires.ready.flat.few_rows in
    let h = c.if-i-rows.false in (
      search,
      walk-goes-on (flat_of a.rows.now)
          (state_of a.costs.now a.ranks.now a.last) (state_of l.costs l.ranks l.l) l.marks.rows.now
          k.new.blocks k.result
          (walk-skips (flat_of a.rows.now) (state_of a.costs.now a.ranks.now a.last) (state_of l.costs l.ranks l.l) l.marks.rows.now l.marks.blocks.now l.i l.invariant.1 k.new.blocks k.result k.ensures k.auto.blocks)
          (omega (arith, rows-length a.rows.now.outputs.now a.rows.now.heads.now a.rows.now.starts.now a.rows.now.children.now))
          (omega arith)
          (state_of t.new.costs t.new.ranks t.result) t.new.marks.rows.now t.new.marks.blocks.now t.ensures.turned
          t.auto.costs t.auto.ranks,
    )
