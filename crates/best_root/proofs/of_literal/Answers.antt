-- `best_root::of_literal` meets its contract: the store is checked, then the literal added. Assumes nothing.
use mathlib.Core.Path.{◌≡◌, sym, ◌∙◌}
use native.Mathlib.Omega.{arith}
use Rattle.std.specs.Prelude.{Option, Some, None}
use Rattle.std.proofs.lemmas.Result.{err_from_is_err_and}
use Rattle.build.proofs.AnswerLaws.{refused_of}
use borrow.Author.Tests.{not-true, not-false}
use Rattle.term_rules.specs.Lent.{store}
use Rattle.term_add.specs.declared.Added.{Added}
use Rattle.best_root.proofs.SingleLaws.{unformed-refuses, literal_found, literal-full}
use Rattle.best_root.proofs.of_literal.Goals as goal

pub returns-then-not-formed : goal.returns-then-not-formed
returns-then-not-formed c =
    let a = c.args in
    unformed-refuses (store a.records.now a.literals.now a.names.now a.terms a.symbols) _
    (sym c.check-formed.ensures ∙ not-true _ c.if-not-formed.true-raw)

pub literal_term-requires : goal.literal_term-requires
literal_term-requires c =
    record {
      sound = sym c.check-formed.ensures ∙ not-false _ c.if-not-formed.false-raw;
      i_in_bounds = c.requires;
    }

pub returns-in_err-added : goal.returns-in_err-added
returns-in_err-added c =
    let a = c.args in
    let h : ◌≡◌ {A = Option Added} c.literal_term.result None = grind arith in
    let r = err_from_is_err_and c.from_residual.result c.from_residual.ensures.1 in
    rw (refused_of c.literal_term.result c.ok_or.ensures.value c.in_err-added.was r.1 r.2)
    (literal-full (store a.records.now a.literals.now a.names.now a.terms a.symbols) _
    (sym c.check-formed.ensures ∙ not-false _ c.if-not-formed.false-raw)
    _ _ _ _ c.literal_term.ensures h)

pub returns : goal.returns
returns c =
    let a = c.args in
    let h : ◌≡◌ {A = Option Added} c.literal_term.result (Some c.in_ok-added.added) = grind arith in
    literal_found (store a.records.now a.literals.now a.names.now a.terms a.symbols) _
    (sym c.check-formed.ensures ∙ not-false _ c.if-not-formed.false-raw)
    _ _ _ _ _ c.literal_term.ensures h
