-- `term::add_variable` meets its contract. The tests, and then the variable is interned. Assumes nothing.
use Rattle.std.proofs.lemmas.Result.{err_from_is_err_and}
use Rattle.std.specs.Prelude.{Some, None}
use Rattle.term_rules.specs.Nodes.{variable}
use Rattle.term_add.specs.Held.{held}
use Rattle.term.specs.Calls.{variable_faults, add_variable}
use Rattle.term.proofs.CallLaws.{variable-fits, adding-refuses, adding-gains}
use Rattle.term.proofs.add_variable.Goals as goal

pub returns-in_err-check_variable-clause-added : goal.returns-in_err-check_variable-clause-added
unfolding add_variable
returns-in_err-check_variable-clause-added c =
    let g = c.args in
    let p = err_from_is_err_and c.from_residual.result c.from_residual.ensures.1 in
    rw (p.1, p.2) (adding-refuses (held g.store.now) (variable g.name.now) (variable_faults (held g.store.now) g.name.now) _
    (rw c.lent.ensures at c.in_err-check_variable.ensures.faults))

pub intern_variable-requires-clause-named : goal.intern_variable-requires-clause-named
intern_variable-requires-clause-named c =
    let g = c.args in
    (variable-fits (held g.store.now) g.name.now
    (rw c.lent.ensures at c.in_ok-check_variable.ensures.faults)).1

pub returns-in_default-clause-added : goal.returns-in_default-clause-added
unfolding add_variable
returns-in_default-clause-added c =
    let g = c.args in
    adding-gains (held g.store.now) (variable g.name.now) (variable_faults (held g.store.now) g.name.now) (None) _
    (rw c.lent.ensures at c.in_ok-check_variable.ensures.faults) (rw (c.in_default.is) at c.intern_variable.ensures.gains)

pub returns-clause-added : goal.returns-clause-added
unfolding add_variable
returns-clause-added c =
    let g = c.args in
    adding-gains (held g.store.now) (variable g.name.now) (variable_faults (held g.store.now) g.name.now) (Some _) _
    (rw c.lent.ensures at c.in_ok-check_variable.ensures.faults) (rw (c.in-Some.is) at c.intern_variable.ensures.gains)
