-- `price_marks::run::repeat_marked` meets its contract: at most as many passes change something as there are classes.
-- Assumes nothing.
use Prim.Native.Nat.{◌+◌}
use lib.ListN.{length}
use Rattle.price_passes.specs.Flat.{flat_of, state_of}
use Rattle.price_passes.proofs.RepeatLaws.{repeat-few}
use Rattle.price_marks.proofs.RunLaws.{going-begins, going-asks, going-goes-on, going-ends}
use native.Mathlib.Omega.{arith}
use Rattle.price_marks.proofs.run.repeat_marked.Goals as goal

pub loop-l-init : goal.loop-l-init
loop-l-init c =
    let a = c.args in
    going-begins (flat_of a.rows.now) a.costs.now
    a.ranks.now a.marks.now.rows.now a.marks.now.blocks.now c.requires.fresh c.requires.covered c.requires.room

pub one_pass-m-requires : goal.one_pass-m-requires
one_pass-m-requires c =
    let a = c.args in
    let l = c.loop-l in
    let all-asked = going-asks (length a.ranks.now) a.rows.now
    a.users.now
    c.requires.ready (state_of l.costs l.ranks l.l) l.p l.marks.rows.now l.marks.blocks.now l.invariant in
    record { outputs_bound = all-asked.0; costs_len = all-asked.1.0; ready = all-asked.1.1.0; room = all-asked.1.1.1.0; covered = all-asked.1.1.1.1 }

pub overflow_add-p : goal.overflow_add-p
overflow_add-p c =
    let a = c.args in
    let ok = c.requires.ready.flat in
    let l = c.loop-l in
    let few = repeat-few (length a.ranks.now) a.rows.now ok (state_of l.costs l.ranks l.l) l.p l.invariant.repeated in
    omega (arith, ok.few_classes)

pub returns-then-m-l : goal.returns-then-m-l
returns-then-m-l c =
    let a = c.args in
    let l = c.loop-l in
    let r = c.one_pass-m in
    going-ends (length a.ranks.now) a.rows.now
    a.users.now
    c.requires.ready (state_of l.costs l.ranks l.l) l.p l.marks.rows.now l.marks.blocks.now l.invariant
    (state_of r.new.costs r.new.ranks r.result) r.new.marks.rows.now r.new.marks.blocks.now r.ensures.passed
    c.if-m-l.true

pub loop-l-smaller : goal.loop-l-smaller
loop-l-smaller c =
    let a = c.args in
    let l = c.loop-l in
    let r = c.one_pass-m in
    let ok = c.requires.ready in
    let t = state_of r.new.costs r.new.ranks r.result in
    let v = going-goes-on (length a.ranks.now) a.rows.now a.users.now ok (state_of l.costs l.ranks l.l)
    l.p l.marks.rows.now l.marks.blocks.now l.invariant
    t r.new.marks.rows.now r.new.marks.blocks.now r.ensures.passed r.auto.costs r.auto.ranks c.if-m-l.false in
    let few = repeat-few (length a.ranks.now) a.rows.now ok.flat t (l.p + 1) v.repeated in
    omega arith

pub loop-l-preserved : goal.loop-l-preserved
loop-l-preserved c =
    let a = c.args in
    let l = c.loop-l in
    let r = c.one_pass-m in
    going-goes-on (length a.ranks.now) a.rows.now
    a.users.now
    c.requires.ready (state_of l.costs l.ranks l.l) l.p l.marks.rows.now l.marks.blocks.now l.invariant
    (state_of r.new.costs r.new.ranks r.result) r.new.marks.rows.now r.new.marks.blocks.now r.ensures.passed
    r.auto.costs r.auto.ranks c.if-m-l.false
