-- `terms::needlevale_add_variable` meets its contract: `lent_terms::add_variable` does the work, and its answer is told. Assumes nothing.
use Rattle.needlevale_c.proofs.terms.TermLaws.{added-left}
use Rattle.needlevale_c.proofs.terms.needlevale_add_variable.Goals as goal

pub returns : goal.returns
returns c =
    let g = c.args in
    added-left g.ts.now g.ns.now g.terms g.symbols _ c.add_variable-r.result c.told_added.result c.add_variable-r.new.ts c.add_variable-r.new.ns
    c.add_variable-r.ensures c.told_added.ensures
