-- `lent_terms::size` meets its contract: the store is copied, and `term::size` does the work. Assumes nothing.
use Rattle.std.proofs.Common.{ap, ◌∙◌}
use Rattle.term_rules.specs.Lent.{Store}
use Rattle.term.specs.Calls.{size_of}
use Rattle.lent.proofs.StoreLaws.{copied-store}
use Rattle.lent_terms.proofs.size.Goals as goal

pub returns : goal.returns
returns c =
    let g = c.args in
    c.size.ensures
    ∙ ap (λ (s : Store). size_of s) (c.lent.ensures ∙ copied-store g.ts.now g.ns.now c.copy_of.new.copy g.terms g.symbols c.copy_of.ensures)
