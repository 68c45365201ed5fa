-- `term_record::is_new_record` meets its contract: a walk down its bucket. Assumes nothing.
use Prim.Native.Nat.{◌-◌}
use mathlib.Core.Path.{sym, ◌∙◌}
use Rattle.term_record.proofs.BucketLaws.{walk_start, walk-on, walk_end, walk-found}
use native.Mathlib.Omega.{arith}
use Rattle.term_record.proofs.is_new_record.Goals as goal

pub loop-p-init : goal.loop-p-init
loop-p-init c =
    walk_start c.args.records.now c.args.literals.now c.args.i c.args.from c.requires.last

pub returns-then-is_same_record : goal.returns-then-is_same_record
returns-then-is_same_record c =
    let g = c.args in
    let l = c.loop-p in
    sym (walk-found g.records.now g.literals.now g.i l.p (omega arith) l.invariant
    (sym c.is_same_record.ensures ∙ c.if-is_same_record.true))

pub loop-p-smaller : goal.loop-p-smaller
loop-p-smaller c =
    let l = c.loop-p in
    let n = c.requires.chained (l.p - 1) (omega (arith, l.invariant.lower)) in
    omega (arith, n.lower)

pub loop-p-preserved : goal.loop-p-preserved
loop-p-preserved c =
    let l = c.loop-p in
    walk-on c.args.records.now c.args.literals.now c.args.i c.args.nexts.now l.p
    (omega arith) l.invariant c.requires.chained (sym c.is_same_record.ensures
    ∙ c.if-is_same_record.false)

pub returns : goal.returns
returns c =
    let g = c.args in
    let l = c.loop-p in
    sym (walk_end g.records.now g.literals.now g.i l.p (omega arith) l.invariant)
