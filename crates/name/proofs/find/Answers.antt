-- `name::find` meets its contract. The entries are passed in order. Assumes nothing.
use mathlib.Core.Path.{sym, ◌∙◌}
use Rattle.name.proofs.EntryLaws.{find_from-here, find_from-more, find_from-end, find_from-start}
use native.Mathlib.Omega.{arith}
use Rattle.name.proofs.find.Goals as goal

pub loop-k-init : goal.loop-k-init
loop-k-init c = find_from-start c.args.table.now c.args.name.now c.args.n

pub name_of-requires : goal.name_of-requires
name_of-requires c =
    let k = c.loop-k.k in
    let pre = c.requires in
    record { long = omega (arith, pre.long); short = pre.short k (omega arith) }

pub returns-then-are_same : goal.returns-then-are_same
returns-then-are_same c =
    let g = c.args in
    let l = c.loop-k in
    sym (find_from-here g.table.now g.name.now l.k g.n (omega arith)
    (rw (← c.name_of.ensures, ← c.are_same.ensures) c.if-are_same.true))
    ∙ l.invariant

pub loop-k-preserved : goal.loop-k-preserved
loop-k-preserved c =
    let g = c.args in
    let l = c.loop-k in
    find_from-more g.table.now g.name.now l.k g.n (omega arith)
    (rw (← c.name_of.ensures, ← c.are_same.ensures) c.if-are_same.false)
    ∙ l.invariant

pub returns : goal.returns
returns c =
    let g = c.args in
    let l = c.loop-k in
    sym (find_from-end g.table.now g.name.now l.k g.n (omega arith)) ∙ l.invariant
