-- `term_record::are_names_sound` meets its contract. The walk stops at the first name that is not sound. Assumes nothing.
use Rattle.term_rules.proofs.TestLaws.{every-start, every_more, every-fails, every-end}
use mathlib.Core.Path.{sym, ◌∙◌}
use borrow.Author.Tests.{not-true, not-false}
use Rattle.term_rules.specs.WellFormed.{sound_name}
use native.Mathlib.Omega.{arith}
use Rattle.term_record.proofs.are_names_sound.Goals as goal

pub loop-k-init : goal.loop-k-init
loop-k-init c =
    let g = c.args in
    every-start (sound_name g.names.now)

pub returns-then-not-is_sound_name : goal.returns-then-not-is_sound_name
returns-then-not-is_sound_name c =
    let g = c.args in
    let l = c.loop-k in
    sym (every-fails (sound_name g.names.now) g.symbols l.k (omega arith)
    (sym c.is_sound_name.ensures ∙ not-true _ c.if-not-is_sound_name.true-raw))

pub loop-k-preserved : goal.loop-k-preserved
loop-k-preserved c =
    let g = c.args in
    let l = c.loop-k in
    every_more (sound_name g.names.now) l.k l.invariant (sym c.is_sound_name.ensures ∙
    not-false _ c.if-not-is_sound_name.false-raw)

pub returns : goal.returns
returns c =
    let g = c.args in
    let l = c.loop-k in
    sym (every-end (sound_name g.names.now) l.k g.symbols (omega arith) (omega arith) l.invariant)
