-- `term_record::is_sound_variable` meets its contract. Each test is one of the definition. Assumes nothing.
use mathlib.Core.Path.{sym, ◌∙◌}
use lib.ListN.{get_or}
use lib.IntN.{pos}
use Rattle.term_rules.proofs.SignLaws.{bits-zero, bits-apart}
use Rattle.term_record.proofs.CheckLaws.{variable-symbol-refuses, variable-count-refuses, variable-literal-refuses, variable-rest}
use native.Mathlib.Omega.{arith}
use Rattle.term_record.proofs.is_sound_variable.Goals as goal

pub returns-then-symbol_of-symbols : goal.returns-then-symbol_of-symbols
returns-then-symbol_of-symbols c =
    let g = c.args in
    sym (variable-symbol-refuses g.records.now g.literals.now g.i g.symbols (omega (arith, c.if-symbol_of-symbols.true, c.symbol_of.ensures)))

pub returns-then-count_of-ne0 : goal.returns-then-count_of-ne0
returns-then-count_of-ne0 c =
    let g = c.args in
    sym
    (variable-count-refuses g.records.now g.literals.now g.i g.symbols (omega (arith, c.if-symbol_of-symbols.false, c.symbol_of.ensures))
    (λ e. c.if-count_of-ne0.true (c.count_of.ensures ∙ e)))

pub returns-then-literals-i-ne0 : goal.returns-then-literals-i-ne0
returns-then-literals-i-ne0 c =
    let g = c.args in
    sym
    (variable-literal-refuses g.records.now g.literals.now g.i g.symbols
    (omega (arith, c.if-symbol_of-symbols.false, c.symbol_of.ensures))
    (sym c.count_of.ensures ∙ c.if-count_of-ne0.false) (bits-apart (get_or g.literals.now g.i (pos 0)) (pos 0) c.if-literals-i-ne0.true))

pub returns : goal.returns
returns c =
    let g = c.args in
    let z =
    bits-zero (get_or g.literals.now g.i (pos 0)) (record { sfits = c.t10-1.given })
    c.if-literals-i-ne0.false in
    (rw c.places_of.ensures at c.all_zero.ensures)
    ∙ variable-rest g.records.now g.literals.now g.i g.symbols
    (omega (arith, c.if-symbol_of-symbols.false, c.symbol_of.ensures)) (sym c.count_of.ensures ∙ c.if-count_of-ne0.false) z
