-- `price_passes::rows::cost` meets its contract: the sum so far and the children from the next on make the row's cost.
-- Assumes nothing.
use Rattle.choice_rules.specs.Run.{child_cost}
use Rattle.price_passes.proofs.WalkLaws.{sum-goes-on, sum-ends}
use native.Mathlib.Omega.{arith}
use Rattle.price_passes.proofs.rows.cost.Goals as goal

pub loop-child-preserved : goal.loop-child-preserved
loop-child-preserved c =
    let a = c.args in
    let l = c.loop-child in
    let e = sum-goes-on a.kids.now l.child-index (child_cost a.costs.now) (omega arith) in
    let v = l.invariant.1 in
    (omega arith, omega arith)

pub returns : goal.returns
returns c =
    let a = c.args in
    let l = c.loop-child in
    let e = sum-ends a.kids.now l.child-index (child_cost a.costs.now) (omega arith) (omega arith) in
    omega (arith, l.invariant.1)
