-- `price_passes::passes::repeat` meets its contract: at most as many passes change something as there are classes. Assumes
-- nothing.
use Prim.Native.Nat.{◌+◌}
use lib.ListN.{length}
use Rattle.price_passes.specs.Flat.{flat_of, state_of}
use Rattle.price_passes.proofs.RepeatLaws.{repeat-begins, repeat-few, repeat-asks, repeat-goes-on}
use Rattle.price_passes.proofs.RepeatLaws.{repeat-ends}
use native.Mathlib.Omega.{arith}
use Rattle.price_passes.proofs.passes.repeat.Goals as goal

pub loop-l-init : goal.loop-l-init
loop-l-init c =
    let a = c.args in
    repeat-begins (flat_of a.rows.now)
    a.costs.now a.ranks.now c.requires.fresh

pub one_pass-m-requires : goal.one_pass-m-requires
one_pass-m-requires c =
    let a = c.args in
    let l = c.loop-l in
    let all-asked = repeat-asks (length a.ranks.now) a.rows.now
    c.requires.flat_ok
    (state_of l.costs l.ranks l.l) l.p l.invariant in
    record { outputs_bound = all-asked.0; costs_len = all-asked.1.0; flat_ok = all-asked.1.1 }

pub overflow_add-p : goal.overflow_add-p
overflow_add-p c =
    let a = c.args in
    let l = c.loop-l in
    let ok = c.requires.flat_ok in
    let few = repeat-few (length a.ranks.now) a.rows.now
    ok (state_of l.costs l.ranks l.l) l.p l.invariant in
    omega (arith, ok.few_classes)

pub returns-then-m-l : goal.returns-then-m-l
returns-then-m-l c =
    let a = c.args in
    let l = c.loop-l in
    let r = c.one_pass-m in
    repeat-ends (length a.ranks.now) a.rows.now
    c.requires.flat_ok (state_of l.costs l.ranks l.l)
    (state_of r.new.costs r.new.ranks r.result) l.p
    l.invariant r.ensures c.if-m-l.true

pub loop-l-smaller : goal.loop-l-smaller
loop-l-smaller c =
    let a = c.args in
    let l = c.loop-l in
    let r = c.one_pass-m in
    let ok = c.requires.flat_ok in
    let u = state_of r.new.costs r.new.ranks r.result in
    let v = repeat-goes-on (length a.ranks.now) a.rows.now ok (state_of l.costs l.ranks l.l) u l.p l.invariant r.ensures r.auto.costs
    r.auto.ranks c.if-m-l.false in
    let few = repeat-few (length a.ranks.now) a.rows.now
    ok u (l.p + 1) v in
    omega arith

pub loop-l-preserved : goal.loop-l-preserved
loop-l-preserved c =
    let a = c.args in
    let l = c.loop-l in
    let r = c.one_pass-m in
    repeat-goes-on (length a.ranks.now) a.rows.now
    c.requires.flat_ok (state_of l.costs l.ranks l.l)
    (state_of r.new.costs r.new.ranks r.result) l.p
    l.invariant r.ensures r.auto.costs r.auto.ranks c.if-m-l.false
