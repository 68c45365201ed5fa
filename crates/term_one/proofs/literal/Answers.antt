-- `term_one::literal` meets its contract. The literal is interned. Assumes nothing.
use mir.Syntax.{w64}
use mir.ValLaws.{to_z-of_z}
use Rattle.term_add.specs.Held.{held}
use Rattle.term_rules.specs.Nodes.{literal}
use Rattle.term.specs.Calls.{literal_faults, add_literal}
use Rattle.term.proofs.CallLaws.{adding-gains}
use Rattle.term_one.proofs.AskedLaws.{store-passes}
use Rattle.term_one.proofs.literal.Goals as goal

pub returns-clause-added : goal.returns-clause-added
unfolding add_literal
returns-clause-added c =
    let g = c.args in
    let s = held g.store.now in
    rw c.ok_or.ensures.value
    (adding-gains s (literal g.literal) (literal_faults s) _ _ (store-passes s c.requires)
    (rw (to_z-of_z w64 g.literal c.ranges.literal) at c.intern_literal.ensures.gains))
