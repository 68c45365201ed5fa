-- `lent_terms::find_literal` meets its contract: the store is copied, and `term::find_literal` does the work. Assumes nothing.
use Rattle.std.proofs.Common.{ap, ◌∙◌}
use mir.Syntax.{w64}
use mir.ValLaws.{to_z-of_z}
use Rattle.term_rules.specs.Lent.{Store}
use Rattle.term.specs.Calls.{find_literal}
use Rattle.lent.proofs.StoreLaws.{copied-store}
use Rattle.lent_terms.proofs.find_literal.Goals as goal

pub returns : goal.returns
returns c =
    let g = c.args in
    (rw (to_z-of_z w64 g.literal c.ranges.literal) at c.find_literal.ensures)
    ∙ ap (λ (s : Store). find_literal s g.literal) (c.lent.ensures ∙ copied-store g.ts.now g.ns.now c.copy_of.new.copy g.terms g.symbols c.copy_of.ensures)
