-- `term_record::is_same_record` meets its contract. Field by field. Assumes nothing.
use mathlib.Core.Path.{sym, ◌∙◌}
use lib.ListN.{get_or}
use lib.IntN.{pos}
use Rattle.term_rules.proofs.SignLaws.{bits-same, bits-apart}
use Rattle.name.proofs.NameLaws.{same-eq}
use Rattle.term_record.proofs.CheckLaws.{same-kind-refuses, same-symbol-refuses, same-count-refuses, same-literal-refuses, same_rest}
use Rattle.term_record.proofs.is_same_record.Goals as goal

pub returns-then-kind_of : goal.returns-then-kind_of
returns-then-kind_of c =
    let g = c.args in
    sym (same-kind-refuses g.records.now g.literals.now g.j g.i
    (λ e. c.if-kind_of.true (c.kind_of.ensures ∙ e ∙ sym c.kind_of-2.ensures)))

pub returns-then-symbol_of : goal.returns-then-symbol_of
returns-then-symbol_of c =
    let g = c.args in
    sym (same-symbol-refuses g.records.now g.literals.now g.j g.i
    (sym c.kind_of.ensures ∙ c.if-kind_of.false ∙ c.kind_of-2.ensures)
    (λ e. c.if-symbol_of.true (c.symbol_of.ensures ∙ e ∙ sym c.symbol_of-2.ensures)))

pub returns-then-count_of : goal.returns-then-count_of
returns-then-count_of c =
    let g = c.args in
    sym
    (same-count-refuses g.records.now g.literals.now g.j g.i
    (sym c.kind_of.ensures ∙ c.if-kind_of.false ∙ c.kind_of-2.ensures)
    (sym c.symbol_of.ensures ∙ c.if-symbol_of.false ∙ c.symbol_of-2.ensures)
    (λ e. c.if-count_of.true (c.count_of.ensures ∙ e ∙ sym c.count_of-2.ensures)))

pub returns-then-literals-j : goal.returns-then-literals-j
returns-then-literals-j c =
    let g = c.args in
    sym
    (same-literal-refuses g.records.now g.literals.now g.j g.i
    (sym c.kind_of.ensures ∙ c.if-kind_of.false ∙ c.kind_of-2.ensures)
    (sym c.symbol_of.ensures ∙ c.if-symbol_of.false ∙ c.symbol_of-2.ensures)
    (sym c.count_of.ensures ∙ c.if-count_of.false ∙ c.count_of-2.ensures)
    (bits-apart (get_or g.literals.now g.j (pos 0)) (get_or g.literals.now g.i (pos 0)) c.if-literals-j.true))

pub returns : goal.returns
returns c =
    let g = c.args in
    let e =
    bits-same (get_or g.literals.now g.j (pos 0)) (get_or g.literals.now g.i (pos 0))
    (record { sfits = c.t10-1.given })
    (record { sfits = c.t13-1.given }) c.if-literals-j.false in
    (rw (c.places_of.ensures, c.places_of-2.ensures) at (c.eq.ensures ∙ same-eq c.places_of.result.now c.places_of-2.result.now))
    ∙ same_rest g.records.now g.literals.now g.j g.i
    (sym c.kind_of.ensures ∙ c.if-kind_of.false ∙ c.kind_of-2.ensures)
    (sym c.symbol_of.ensures ∙ c.if-symbol_of.false ∙ c.symbol_of-2.ensures)
    (sym c.count_of.ensures ∙ c.if-count_of.false ∙ c.count_of-2.ensures) e
