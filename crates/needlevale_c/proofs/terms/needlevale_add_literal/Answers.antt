-- `terms::needlevale_add_literal` meets its contract: `lent_terms::add_literal` does the work, and its answer is told. Assumes nothing.
use mir.Syntax.{w64}
use mir.ValLaws.{to_z-of_z}
use Rattle.needlevale_c.proofs.terms.TermLaws.{added-left}
use Rattle.needlevale_c.proofs.terms.needlevale_add_literal.Goals as goal

pub returns : goal.returns
returns c =
    let g = c.args in
    added-left g.ts.now g.ns.now g.terms g.symbols _ c.add_literal-r.result c.told_added.result c.add_literal-r.new.ts g.ns.now
    (rw (to_z-of_z w64 g.literal c.ranges.literal) at c.add_literal-r.ensures) c.told_added.ensures
