-- `term::add_literal_in` meets its contract. The tests, and then the literal is interned. Assumes nothing.
use mir.Syntax.{w64}
use mir.ValLaws.{to_z-of_z}
use Rattle.std.proofs.lemmas.Result.{err_from_is_err_and}
use Rattle.std.specs.Prelude.{Some, None}
use Rattle.term_rules.specs.Nodes.{literal}
use Rattle.term_add.specs.Held.{held}
use Rattle.term.specs.Calls.{literal_faults, add_literal}
use Rattle.term.proofs.CallLaws.{adding-refuses, adding-gains}
use Rattle.term.proofs.add_literal_in.Goals as goal

pub returns-in_err-check_store-clause-added : goal.returns-in_err-check_store-clause-added
unfolding add_literal
returns-in_err-check_store-clause-added c =
    let g = c.args in
    let p = err_from_is_err_and c.from_residual.result c.from_residual.ensures.1 in
    rw (p.1, p.2) (adding-refuses (held g.store.now) (literal g.literal) (literal_faults (held g.store.now)) _
    (rw c.lent.ensures at c.in_err-check_store.ensures.faults))

pub returns-in_default-clause-added : goal.returns-in_default-clause-added
unfolding add_literal
returns-in_default-clause-added c =
    let g = c.args in
    adding-gains (held g.store.now) (literal g.literal) (literal_faults (held g.store.now)) (None) _
    (rw c.lent.ensures at c.in_ok-check_store.ensures.faults) (rw (to_z-of_z w64 g.literal c.ranges.literal, c.in_default.is) at c.intern_literal.ensures.gains)

pub returns-clause-added : goal.returns-clause-added
unfolding add_literal
returns-clause-added c =
    let g = c.args in
    adding-gains (held g.store.now) (literal g.literal) (literal_faults (held g.store.now)) (Some _) _
    (rw c.lent.ensures at c.in_ok-check_store.ensures.faults) (rw (to_z-of_z w64 g.literal c.ranges.literal, c.in-Some.is) at c.intern_literal.ensures.gains)
