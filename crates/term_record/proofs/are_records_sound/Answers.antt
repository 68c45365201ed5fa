-- `term_record::are_records_sound` meets its contract. The walk stops at the first record that is not sound. Assumes
-- nothing.
use Rattle.term_rules.proofs.TestLaws.{every-start, every_more, every-fails, every-end}
use mathlib.Core.Path.{sym, ◌∙◌}
use borrow.Author.Tests.{not-true, not-false}
use Rattle.term_record.specs.Flat.{sound_record_at}
use native.Mathlib.Omega.{arith}
use Rattle.term_record.proofs.are_records_sound.Goals as goal

pub loop-i-init : goal.loop-i-init
loop-i-init c =
    let g = c.args in
    every-start (sound_record_at g.records.now g.literals.now g.symbols)

pub returns-then-not-is_sound_record : goal.returns-then-not-is_sound_record
returns-then-not-is_sound_record c =
    let g = c.args in
    let l = c.loop-i in
    sym (every-fails (sound_record_at g.records.now g.literals.now g.symbols) g.terms l.i (omega arith)
    (sym c.is_sound_record.ensures ∙ not-true _ c.if-not-is_sound_record.true-raw))

pub loop-i-preserved : goal.loop-i-preserved
loop-i-preserved c =
    let g = c.args in
    let l = c.loop-i in
    every_more (sound_record_at g.records.now g.literals.now
    g.symbols) l.i l.invariant (sym c.is_sound_record.ensures ∙ not-false _ c.if-not-is_sound_record.false-raw)

pub returns : goal.returns
returns c =
    let g = c.args in
    let l = c.loop-i in
    sym (every-end (sound_record_at g.records.now g.literals.now g.symbols) l.i g.terms (omega arith)
    (omega arith) l.invariant)
