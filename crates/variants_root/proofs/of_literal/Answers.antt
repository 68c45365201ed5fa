-- `variants_root::of_literal` meets its contract: the store is checked, a place for the result, then the literal added.
-- Assumes nothing.
use mathlib.Core.Path.{◌≡◌, sym, ◌∙◌}
use native.Mathlib.Omega.{arith}
use Rattle.std.specs.Prelude.{Option, Some, None}
use Rattle.std.proofs.lemmas.Result.{err_from_is_err_and}
use Rattle.build.proofs.AnswerLaws.{refused_of}
use borrow.Author.Tests.{not-true, not-false}
use lib.IntN.{pos}
use lib.ListN.{get_or}
use Rattle.term_rules.specs.Lent.{store}
use Rattle.term_add.specs.declared.Added.{Added}
use Rattle.variant_answers.specs.Kept.{lending}
use Rattle.variants_root.proofs.SeveralLaws.{unformed-refuses, literal-no-costs, literal-no-terms, literal-full, literal-kept}
use Rattle.variants_root.proofs.of_literal.Goals as goal

pub returns-then-not-formed : goal.returns-then-not-formed
returns-then-not-formed c =
    let a = c.args in
    unformed-refuses
    (lending (store a.records.now a.literals.now a.names.now a.terms a.symbols) a.paid.now
    a.found.now) _ (sym c.check-formed.ensures ∙ not-true _ c.if-not-formed.true-raw)

pub returns-then-paid-eq0 : goal.returns-then-paid-eq0
returns-then-paid-eq0 c =
    let a = c.args in
    let f = sym c.check-formed.ensures ∙ not-false _ c.if-not-formed.false-raw in
    literal-no-costs (store a.records.now a.literals.now a.names.now a.terms a.symbols) a.paid.now
    a.found.now (get_or a.values.now a.i (pos 0)) f c.if-paid-eq0.true

pub returns-then-found-eq0 : goal.returns-then-found-eq0
returns-then-found-eq0 c =
    let a = c.args in
    let f = sym c.check-formed.ensures ∙ not-false _ c.if-not-formed.false-raw in
    literal-no-terms (store a.records.now a.literals.now a.names.now a.terms a.symbols) a.paid.now
    a.found.now (get_or a.values.now a.i (pos 0)) f c.if-paid-eq0.false c.if-found-eq0.true

pub literal_term-requires : goal.literal_term-requires
literal_term-requires c =
    record {
      sound = sym c.check-formed.ensures ∙ not-false _ c.if-not-formed.false-raw;
      i_in_bounds = c.requires;
    }

pub returns-in_err-added : goal.returns-in_err-added
returns-in_err-added c =
    let a = c.args in
    let f = sym c.check-formed.ensures ∙ not-false _ c.if-not-formed.false-raw in
    let h : ◌≡◌ {A = Option Added} c.literal_term.result None = grind arith in
    let r = err_from_is_err_and c.from_residual.result c.from_residual.ensures.1 in
    rw (refused_of c.literal_term.result c.ok_or.ensures.value c.in_err-added.was r.1 r.2)
    (literal-full (store a.records.now a.literals.now a.names.now a.terms a.symbols) a.paid.now
    a.found.now (get_or a.values.now a.i (pos 0)) f _ _ _ _ c.literal_term.ensures h)

pub returns : goal.returns
returns c =
    let a = c.args in
    let f = sym c.check-formed.ensures ∙ not-false _ c.if-not-formed.false-raw in
    let h : ◌≡◌ {A = Option Added} c.literal_term.result (Some c.in_ok-added.added) = grind arith in
    literal-kept (store a.records.now a.literals.now a.names.now a.terms a.symbols) a.paid.now
    a.found.now (get_or a.values.now a.i (pos 0)) f _ _ _ _ c.literal_term.ensures _ h
    c.if-paid-eq0.false c.if-found-eq0.false
