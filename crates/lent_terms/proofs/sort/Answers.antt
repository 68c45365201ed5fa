-- `lent_terms::sort` meets its contract: the store is copied, and `term::sort` does the work. Assumes nothing.
use Rattle.std.proofs.Common.{ap, ◌∙◌}
use Rattle.term_rules.specs.Lent.{Store}
use Rattle.term.specs.Calls.{sort_terms}
use Rattle.lent.proofs.StoreLaws.{copied-store}
use Rattle.lent_terms.proofs.sort.Goals as goal

pub returns : goal.returns
returns c =
    let g = c.args in
    c.sort.ensures
    ∙ ap (λ (s : Store). sort_terms s g.list.now) (c.lent.ensures ∙ copied-store g.ts.now g.ns.now c.copy_of.new.copy g.terms g.symbols c.copy_of.ensures)
