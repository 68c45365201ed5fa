-- `term_record::is_sound_record` meets its contract. By the kind. Assumes nothing.
use mathlib.Core.Path.{sym, ◌∙◌}
use native.Mathlib.Omega.{arith}
use Rattle.term_record.proofs.CheckLaws.{record-literal, record-variable, record-application, record-other-refuses}
use Rattle.term_record.proofs.is_sound_record.Goals as goal

pub returns-in-0 : goal.returns-in-0
returns-in-0 c =
    let g = c.args in
    c.is_sound_literal.ensures
    ∙ record-literal g.records.now g.literals.now g.i g.symbols (sym c.kind_of.ensures ∙ c.in-0.is)

pub returns-in-1 : goal.returns-in-1
returns-in-1 c =
    let g = c.args in
    c.is_sound_variable.ensures
    ∙ record-variable g.records.now g.literals.now g.i g.symbols (sym c.kind_of.ensures ∙ c.in-1.is)

pub returns-in-2 : goal.returns-in-2
returns-in-2 c =
    let g = c.args in
    c.is_sound_application.ensures
    ∙ record-application g.records.now g.literals.now g.i g.symbols (sym c.kind_of.ensures ∙ c.in-2.is)

pub returns-in_default : goal.returns-in_default
returns-in_default c =
    let g = c.args in
    sym (record-other-refuses g.records.now g.literals.now g.i g.symbols (λ e. omega (arith, e, c.kind_of.ensures))
    (λ e. omega (arith, e, c.kind_of.ensures)) (λ e. omega (arith, e, c.kind_of.ensures)))
