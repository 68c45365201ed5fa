-- `lent_terms::add_literal` meets its contract: the store is copied, `term::add_literal` does the work, and the records
-- are put back. Assumes nothing.
use mir.Syntax.{w64}
use mir.ValLaws.{to_z-of_z}
use Rattle.term_rules.specs.Lent.{Store}
use Rattle.term.specs.Calls.{add_literal}
use Rattle.lent_terms.proofs.AddedLaws.{added-same-names}
use Rattle.lent_terms.proofs.add_literal.Goals as goal

pub returns : goal.returns
returns c =
    let g = c.args in
    let call = c.add_literal-added in
    added-same-names g.ts.now c.unload.new.ts g.ns.now c.copy_of.new.copy g.terms g.symbols
    (λ (s : Store). add_literal s g.literal) call.result call.new.records call.new.literals c.copy_of.ensures
    call.auto.records call.auto.literals c.unload.ensures (rw (to_z-of_z w64 g.literal c.ranges.literal) at call.ensures)
