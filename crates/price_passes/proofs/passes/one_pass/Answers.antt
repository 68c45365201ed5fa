-- `price_passes::passes::one_pass` meets its contract: the rows from the i-th on make the rest of the pass. Assumes nothing.
use Rattle.price_passes.specs.Flat.{state_of}
use Rattle.price_passes.proofs.PassLaws.{flat-goes-on, flat-ends}
use native.Mathlib.Omega.{arith}
use Rattle.price_passes.proofs.passes.one_pass.Goals as goal

pub loop-i-preserved : goal.loop-i-preserved
loop-i-preserved c =
    let a = c.args in
    let l = c.loop-i in
    let r = c.relax_row-l in
    flat-goes-on a.rows.now
    (state_of a.costs.now a.ranks.now a.last) (state_of l.costs l.ranks l.l) l.i (omega arith)
    l.invariant (state_of r.new.costs r.new.ranks r.result) r.ensures r.auto.costs r.auto.ranks

pub returns : goal.returns
returns c =
    let a = c.args in
    let l = c.loop-i in
    flat-ends a.rows.now
    (state_of a.costs.now a.ranks.now a.last) (state_of l.costs l.ranks l.l) l.i (omega arith)
    l.invariant
