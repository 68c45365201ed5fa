-- `term_record::check` meets its contract. Each test is a part of the definition, in its order. Assumes nothing.
use mathlib.Core.Path.{sym, ◌∙◌}
use lib.ListN.{length}
use Rattle.term_record.proofs.CheckLaws.{within-get, within-limit, entries-of, check-counts-refuses, check-names-refuses, check-new-names-refuses, check-records-refuses, check-rest}
use borrow.Author.Tests.{not-true, not-false}
use Rattle.term_record.proofs.check.Goals as goal

pub returns-then-not-are_counts_within : goal.returns-then-not-are_counts_within
returns-then-not-are_counts_within c =
    let g = c.args.lent.now in
    check-counts-refuses g.records.now g.literals.now g.names.now g.terms g.symbols
    (sym c.are_counts_within.ensures ∙ not-true _ c.if-not-are_counts_within.true-raw)

pub are_names_sound-requires : goal.are_names_sound-requires
are_names_sound-requires c =
    let g = c.args.lent.now in
    (within-get (length g.records.now) (length g.literals.now) (length g.names.now) g.terms g.symbols
    (sym c.are_counts_within.ensures ∙ not-false _ c.if-not-are_counts_within.false-raw)).2

pub returns-then-not-are_names_sound : goal.returns-then-not-are_names_sound
returns-then-not-are_names_sound c =
    let g = c.args.lent.now in
    check-names-refuses g.records.now g.literals.now g.names.now g.terms g.symbols
    (sym c.are_counts_within.ensures ∙ not-false _ c.if-not-are_counts_within.false-raw)
    (sym c.are_names_sound.ensures ∙ not-true _ c.if-not-are_names_sound.true-raw)

pub are_names_new-requires : goal.are_names_new-requires
are_names_new-requires c =
    let g = c.args.lent.now in
    entries-of g.names.now g.symbols
    (within-get (length g.records.now) (length g.literals.now) (length g.names.now) g.terms g.symbols
    (sym c.are_counts_within.ensures ∙ not-false _ c.if-not-are_counts_within.false-raw)).2
    (sym c.are_names_sound.ensures ∙ not-false _ c.if-not-are_names_sound.false-raw)

pub returns-then-not-are_names_new : goal.returns-then-not-are_names_new
returns-then-not-are_names_new c =
    let g = c.args.lent.now in
    check-new-names-refuses g.records.now g.literals.now g.names.now g.terms g.symbols
    (sym c.are_counts_within.ensures ∙ not-false _
    c.if-not-are_counts_within.false-raw) (sym c.are_names_sound.ensures
    ∙ not-false _ c.if-not-are_names_sound.false-raw) (sym c.are_names_new.ensures
    ∙ not-true _ c.if-not-are_names_new.true-raw)

pub are_records_sound-requires : goal.are_records_sound-requires
are_records_sound-requires c =
    let g = c.args.lent.now in
    let w =
    within-get (length g.records.now) (length g.literals.now) (length g.names.now) g.terms
    g.symbols (sym c.are_counts_within.ensures ∙ not-false _
    c.if-not-are_counts_within.false-raw) in
    (w.0, w.1)

pub returns-then-not-are_records_sound : goal.returns-then-not-are_records_sound
returns-then-not-are_records_sound c =
    let g = c.args.lent.now in
    check-records-refuses g.records.now g.literals.now g.names.now g.terms g.symbols
    (sym c.are_counts_within.ensures ∙ not-false _
    c.if-not-are_counts_within.false-raw)
    (sym c.are_names_sound.ensures ∙ not-false _
    c.if-not-are_names_sound.false-raw) (sym c.are_names_new.ensures
    ∙ not-false _ c.if-not-are_names_new.false-raw) (sym c.are_records_sound.ensures
    ∙ not-true _ c.if-not-are_records_sound.true-raw)

pub are_records_new-requires : goal.are_records_new-requires
are_records_new-requires c =
    let g = c.args.lent.now in
    let e =
    sym c.are_counts_within.ensures
    ∙ not-false _ c.if-not-are_counts_within.false-raw in
    let w =
    within-get (length g.records.now) (length g.literals.now) (length g.names.now) g.terms
    g.symbols e in (
      w.0,
      (
        w.1,
        within-limit (length g.records.now) (length g.literals.now) (length g.names.now) g.terms
            g.symbols e,
      ),
    )

pub returns : goal.returns
returns c =
    let g = c.args.lent.now in
    c.are_records_new.ensures
    ∙ check-rest g.records.now g.literals.now g.names.now g.terms g.symbols
    (sym c.are_counts_within.ensures ∙
    not-false _ c.if-not-are_counts_within.false-raw)
    (sym c.are_names_sound.ensures ∙ not-false _
    c.if-not-are_names_sound.false-raw)
    (sym c.are_names_new.ensures ∙ not-false _
    c.if-not-are_names_new.false-raw) (sym c.are_records_sound.ensures
    ∙ not-false _ c.if-not-are_records_sound.false-raw)
