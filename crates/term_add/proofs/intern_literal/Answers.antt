-- `term_add::intern_literal` meets its contract. The literal is looked for, and appended if it is not there. Assumes
-- nothing.
use mathlib.Core.Path.{sym, ◌∙◌}
use mir.Syntax.{w64}
use mir.ValLaws.{to_z-of_z}
use Rattle.term_rules.specs.Lent.{store}
use Rattle.term_rules.specs.Nodes.{literal}
use Rattle.term_add.proofs.AppendLaws.{add-there, add-new-literal, leaves-as}
use Rattle.term_add.proofs.intern_literal.Goals as goal

pub returns-in_default : goal.returns-in_default
returns-in_default c =
    let g = c.args in
    let s = store g.records.now g.literals.now g.names.now g.terms g.symbols in
    let e =
    to_z-of_z w64 g.literal
    c.ranges.literal in
    leaves-as s _ _ _ _ _ _
    (add-new-literal s g.literal
    (sym (rw e at c.find_literal.ensures) ∙
    c.in_default.is))
    (rw e at c.append_literal.ensures)

pub returns : goal.returns
returns c =
    let g = c.args in
    let e =
    to_z-of_z w64 g.literal c.ranges.literal in
    add-there g.records.now g.literals.now g.names.now g.terms g.symbols (literal g.literal) _
    (sym (rw e at c.find_literal.ensures) ∙ c.in-Some.is)
