-- `lent_terms::get` meets its contract: the store is copied, and `term::get` does the work. Assumes nothing.
use Rattle.std.proofs.Common.{ap, ◌∙◌}
use Rattle.term_rules.specs.Lent.{Store}
use Rattle.term.specs.Calls.{get_term}
use Rattle.lent.proofs.StoreLaws.{copied-store}
use Rattle.lent_terms.proofs.get.Goals as goal

pub returns : goal.returns
returns c =
    let g = c.args in
    c.get.ensures
    ∙ ap (λ (s : Store). get_term s g.i) (c.lent.ensures ∙ copied-store g.ts.now g.ns.now c.copy_of.new.copy g.terms g.symbols c.copy_of.ensures)
