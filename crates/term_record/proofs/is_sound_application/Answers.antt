-- `term_record::is_sound_application` meets its contract. Each test is one of the definition. Assumes nothing.
use mathlib.Core.Path.{sym, ◌∙◌}
use lib.ListN.{get_or}
use lib.IntN.{pos}
use borrow.Author.Tests.{not-true, not-false}
use Rattle.term_rules.proofs.SignLaws.{bits-zero, bits-apart}
use Rattle.term_record.proofs.CheckLaws.{application-symbol-refuses, application-count-refuses, application-literal-refuses, application-child-refuses, application-rest}
use native.Mathlib.Omega.{arith}
use Rattle.term_record.proofs.is_sound_application.Goals as goal

pub returns-then-symbol_of-symbols : goal.returns-then-symbol_of-symbols
returns-then-symbol_of-symbols c =
    let g = c.args in
    sym (application-symbol-refuses g.records.now g.literals.now g.i g.symbols (omega (arith, c.if-symbol_of-symbols.true, c.symbol_of.ensures)))

pub returns-then-count_of-gt8 : goal.returns-then-count_of-gt8
returns-then-count_of-gt8 c =
    let g = c.args in
    sym
    (application-count-refuses g.records.now g.literals.now g.i g.symbols (omega (arith, c.if-symbol_of-symbols.false, c.symbol_of.ensures))
    (omega (arith, c.if-count_of-gt8.true, c.count_of.ensures)))

pub returns-then-literals-i-ne0 : goal.returns-then-literals-i-ne0
returns-then-literals-i-ne0 c =
    let g = c.args in
    sym
    (application-literal-refuses g.records.now g.literals.now g.i g.symbols
    (omega (arith, c.if-symbol_of-symbols.false, c.symbol_of.ensures))
    (omega (arith, c.if-count_of-gt8.false, c.count_of.ensures)) (bits-apart (get_or g.literals.now g.i (pos 0)) (pos 0) c.if-literals-i-ne0.true))

pub children_of-requires : goal.children_of-requires
children_of-requires c =
    let pre = c.requires in
    record {
      has_record = pre.numbers;
      i_bound = omega (arith, c.if-count_of-gt8.false, c.count_of.ensures);
    }

pub returns-then-not-all_below : goal.returns-then-not-all_below
returns-then-not-all_below c =
    let g = c.args in
    let z =
    bits-zero (get_or g.literals.now g.i (pos 0))
    (record { sfits = c.t10-1.given }) c.if-literals-i-ne0.false in
    sym
    (application-child-refuses g.records.now g.literals.now g.i g.symbols
    (omega (arith, c.if-symbol_of-symbols.false, c.symbol_of.ensures))
    (omega (arith, c.if-count_of-gt8.false, c.count_of.ensures)) z
    (sym ((rw c.children_of.ensures at c.all_below.ensures)) ∙ not-true _ c.if-not-all_below.true-raw))

pub unused_of-requires : goal.unused_of-requires
unused_of-requires c =
    let pre = c.requires in
    record {
      has_record = pre.numbers;
      i_bound = omega (arith, c.if-count_of-gt8.false, c.count_of.ensures);
    }

pub returns : goal.returns
returns c =
    let g = c.args in
    let z =
    bits-zero (get_or g.literals.now g.i (pos 0))
    (record { sfits = c.t10-1.given })
    c.if-literals-i-ne0.false in
    (rw c.unused_of.ensures at c.all_zero.ensures)
    ∙ application-rest g.records.now g.literals.now g.i g.symbols
    (omega (arith, c.if-symbol_of-symbols.false, c.symbol_of.ensures))
    (omega (arith, c.if-count_of-gt8.false, c.count_of.ensures)) z
    (sym ((rw c.children_of.ensures at c.all_below.ensures)) ∙ not-false _ c.if-not-all_below.false-raw)
