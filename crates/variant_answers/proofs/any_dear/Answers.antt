-- `variant_answers::any_dear` meets its contract: the rows from place j on decide. Assumes nothing.
use mathlib.Core.Path.{refl, ◌∙◌}
use Rattle.variant_answers.proofs.LoopLaws.{dear-here, dear-on, dear-end}
use native.Mathlib.Omega.{arith}
use Rattle.variant_answers.proofs.any_dear.Goals as goal

pub loop-row-init : goal.loop-row-init
loop-row-init c = (omega arith, refl)

pub offset_bounds-prices-i : goal.offset_bounds-prices-i
offset_bounds-prices-i c =
    let l = c.loop-row in
    let p = c.requires l.row-index c.loop-row-test.true in
    omega (arith)

pub bounds-prices-i : goal.bounds-prices-i
bounds-prices-i c =
    let l = c.loop-row in
    c.requires l.row-index c.loop-row-test.true

pub returns-then-prices-i-ge18446744073709551615 : goal.returns-then-prices-i-ge18446744073709551615
returns-then-prices-i-ge18446744073709551615 c =
    let a = c.args in
    let l = c.loop-row in
    dear-here a.prices.now a.list.now l.row-index c.loop-row-test.true c.if-prices-i-ge18446744073709551615.true ∙
    l.invariant.1

pub loop-row-preserved : goal.loop-row-preserved
loop-row-preserved c =
    let a = c.args in
    let l = c.loop-row in
    let t = c.loop-row-test.true in
    (omega arith, dear-on a.prices.now a.list.now l.row-index t c.if-prices-i-ge18446744073709551615.false ∙ l.invariant.1)

pub returns : goal.returns
returns c =
    let a = c.args in
    let l = c.loop-row in
    dear-end a.prices.now a.list.now l.row-index c.loop-row-test.false ∙ l.invariant.1
