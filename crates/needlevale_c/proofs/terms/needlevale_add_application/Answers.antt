-- `terms::needlevale_add_application` meets its contract: `lent_terms::add_application` does the work, and its answer is told. Assumes nothing.
use Rattle.needlevale_c.proofs.terms.TermLaws.{added-left}
use Rattle.needlevale_c.proofs.terms.needlevale_add_application.Goals as goal

pub returns : goal.returns
returns c =
    let g = c.args in
    added-left g.ts.now g.ns.now g.terms g.symbols _ c.add_application-r.result c.told_added.result c.add_application-r.new.ts c.add_application-r.new.ns
    c.add_application-r.ensures c.told_added.ensures
