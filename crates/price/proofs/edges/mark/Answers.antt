-- `edges::mark` meets its contract, by its three ways. Assumes nothing.
use Rattle.choice_rules.specs.Edges.{is_edge}
use Rattle.price_passes.specs.Flat.{top, row_of}
use Rattle.price.proofs.edges.WalkLaws.{marked-when-had, marked-when-edge, marked-when-none}
use Rattle.price.proofs.edges.mark.Goals as goal

pub returns-then-edges-output : goal.returns-then-edges-output
returns-then-edges-output c =
    let a = c.args in
    marked-when-had (is_edge top a.costs.now a.ranks.now) a.none a.i
    (row_of a.output a.head a.kids.now) a.edges.now
    c.if-edges-output.true

pub returns-then-is_edge : goal.returns-then-is_edge
returns-then-is_edge c =
    let a = c.args in
    let r = c.is_edge in
    marked-when-edge (is_edge top a.costs.now a.ranks.now) a.none a.i
    (row_of a.output a.head a.kids.now) a.edges.now
    c.if-edges-output.false r.result r.ensures c.if-is_edge.true

pub returns-else-is_edge : goal.returns-else-is_edge
returns-else-is_edge c =
    let a = c.args in
    let r = c.is_edge in
    marked-when-none (is_edge top a.costs.now a.ranks.now) a.none a.i
    (row_of a.output a.head a.kids.now) a.edges.now
    c.if-edges-output.false r.result r.ensures c.if-is_edge.false
