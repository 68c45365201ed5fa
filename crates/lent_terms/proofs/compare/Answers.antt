-- `lent_terms::compare` meets its contract: the store is copied, and `term::compare` does the work. Assumes nothing.
use Rattle.std.proofs.Common.{ap, ◌∙◌}
use Rattle.term_rules.specs.Lent.{Store}
use Rattle.term.specs.Calls.{compare_terms}
use Rattle.lent.proofs.StoreLaws.{copied-store}
use Rattle.lent_terms.proofs.compare.Goals as goal

pub returns : goal.returns
returns c =
    let g = c.args in
    c.compare.ensures
    ∙ ap (λ (s : Store). compare_terms s g.i g.j) (c.lent.ensures ∙ copied-store g.ts.now g.ns.now c.copy_of.new.copy g.terms g.symbols c.copy_of.ensures)
