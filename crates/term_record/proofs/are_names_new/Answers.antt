-- `term_record::are_names_new` meets its contract. The walk stops at the first name that is not new. Assumes nothing.
use Rattle.term_rules.proofs.TestLaws.{every-start, every_more, every-fails, every-end}
use mathlib.Core.Path.{sym, ◌∙◌}
use borrow.Author.Tests.{not-true, not-false}
use Rattle.term_record.specs.Flat.{fresh_name}
use native.Mathlib.Omega.{arith}
use Rattle.term_record.proofs.are_names_new.Goals as goal

pub loop-k-init : goal.loop-k-init
loop-k-init c =
    let g = c.args in
    every-start (fresh_name g.names.now)

pub is_new_name-requires : goal.is_new_name-requires
is_new_name-requires c =
    let pre = c.requires in
    record { long = omega (arith, pre.long); short = λ j h. pre.short j (omega arith) }

pub returns-then-not-is_new_name : goal.returns-then-not-is_new_name
returns-then-not-is_new_name c =
    let g = c.args in
    let l = c.loop-k in
    sym (every-fails (fresh_name g.names.now) g.symbols l.k (omega arith)
    (sym c.is_new_name.ensures ∙ not-true _ c.if-not-is_new_name.true-raw))

pub loop-k-preserved : goal.loop-k-preserved
loop-k-preserved c =
    let g = c.args in
    let l = c.loop-k in
    every_more (fresh_name g.names.now) l.k l.invariant (sym c.is_new_name.ensures ∙
    not-false _ c.if-not-is_new_name.false-raw)

pub returns : goal.returns
returns c =
    let g = c.args in
    let l = c.loop-k in
    sym (every-end (fresh_name g.names.now) l.k g.symbols (omega arith) (omega arith) l.invariant)
