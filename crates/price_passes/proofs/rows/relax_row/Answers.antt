-- `price_passes::rows::relax_row` meets its contract, by its four ways. Assumes nothing.
use mathlib.Core.Path.{sym, ◌∙◌}
use borrow.Author.Tests.{not-true, not-false}
use Rattle.price_passes.proofs.RowLaws.{relax-when-unpriced, relax-when-first, relax-when-lower, relax-when-kept}
use Rattle.price_passes.proofs.rows.relax_row.Goals as goal
use Rattle.price_passes.proofs.rows.relax_row.Goals.{
  then-ranks-output-eq0-via-then-ranks-output-eq0,
  then-ranks-output-eq0-via-else-ranks-output-eq0+then-w-costs,
}

pub returns-then-not-has_cost : goal.returns-then-not-has_cost
returns-then-not-has_cost c =
    let a = c.args in
    let p = c.has_cost in
    relax-when-unpriced a.costs.now a.ranks.now a.kids.now a.last a.output a.head
    (sym p.ensures ∙ not-true p.result c.if-not-has_cost.true-raw)

pub cost-w-requires : goal.cost-w-requires
cost-w-requires c = λ i h. rw c.requires.costs_len (c.requires.children_in i h)

pub returns-then-ranks-output-eq0 : goal.returns-then-ranks-output-eq0
returns-then-ranks-output-eq0 c =
    let a = c.args in
    let p = c.has_cost in
    let w = c.cost-w in
    let k = sym p.ensures ∙ not-false p.result c.if-not-has_cost.false-raw in
    elim c.then-ranks-output-eq0.branch [
      | then-ranks-output-eq0-via-then-ranks-output-eq0 q ↦
          relax-when-first a.costs.now a.ranks.now a.kids.now a.last a.output a.head
          w.result k w.ensures q.if-ranks-output-eq0.true
      | then-ranks-output-eq0-via-else-ranks-output-eq0+then-w-costs q ↦
          relax-when-lower a.costs.now a.ranks.now a.kids.now a.last a.output a.head
          w.result k w.ensures q.if-w-costs.true-raw
    ]

pub returns : goal.returns
returns c =
    let a = c.args in
    let p = c.has_cost in
    let w = c.cost-w in
    let k = sym p.ensures ∙ not-false p.result c.if-not-has_cost.false-raw in
    relax-when-kept a.costs.now a.ranks.now a.kids.now a.last a.output a.head
    w.result k w.ensures c.if-ranks-output-eq0.false c.if-w-costs.false-raw
