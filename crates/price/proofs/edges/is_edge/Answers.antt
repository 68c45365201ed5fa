-- `edges::is_edge` meets its contract, by its three ways. Assumes nothing.
use mathlib.Core.Path.{sym, ◌∙◌}
use borrow.Author.Tests.{not-true, not-false}
use Rattle.price.proofs.edges.RowLaws.{edge-when-unpriced, edge-when-dearer, edge-when-exact}
use Rattle.price.proofs.edges.is_edge.Goals as goal

pub returns-then-not-has_cost : goal.returns-then-not-has_cost
returns-then-not-has_cost c =
    let a = c.args in
    let p = c.has_cost in
    edge-when-unpriced a.costs.now a.ranks.now a.kids.now a.output a.head
    (sym p.ensures ∙ not-true p.result c.if-not-has_cost.true-raw)

pub cost-w-requires : goal.cost-w-requires
cost-w-requires c = λ i h. rw c.requires.costs_len (c.requires.children_in i h)

pub returns-then-w-costs : goal.returns-then-w-costs
returns-then-w-costs c =
    let a = c.args in
    let p = c.has_cost in
    let w = c.cost-w in
    edge-when-dearer a.costs.now a.ranks.now a.kids.now a.output a.head w.result
    (sym p.ensures ∙ not-false p.result c.if-not-has_cost.false-raw) w.ensures c.if-w-costs.true

pub returns : goal.returns
returns c =
    let a = c.args in
    let p = c.has_cost in
    let w = c.cost-w in
    c.all_below.ensures
    ∙ edge-when-exact a.costs.now a.ranks.now a.kids.now a.output a.head w.result
    (sym p.ensures ∙ not-false p.result c.if-not-has_cost.false-raw) w.ensures
    c.if-w-costs.false
