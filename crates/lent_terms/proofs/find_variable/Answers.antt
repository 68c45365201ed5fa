-- `lent_terms::find_variable` meets its contract: the store is copied, and `term::find_variable` does the work. Assumes nothing.
use Rattle.std.proofs.Common.{ap, ◌∙◌}
use Rattle.term_rules.specs.Lent.{Store}
use Rattle.term.specs.Calls.{find_variable}
use Rattle.lent.proofs.StoreLaws.{copied-store}
use Rattle.lent_terms.proofs.find_variable.Goals as goal

pub returns : goal.returns
returns c =
    let g = c.args in
    c.find_variable.ensures
    ∙ ap (λ (s : Store). find_variable s g.name.now) (c.lent.ensures ∙ copied-store g.ts.now g.ns.now c.copy_of.new.copy g.terms g.symbols c.copy_of.ensures)
