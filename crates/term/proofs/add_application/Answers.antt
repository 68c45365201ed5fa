-- `term::add_application` meets its contract. The tests, and then the application is interned. Assumes nothing.
use Rattle.std.proofs.lemmas.Result.{err_from_is_err_and}
use Rattle.std.specs.Prelude.{Some, None}
use Rattle.term_rules.specs.Nodes.{application}
use Rattle.term_add.specs.Held.{held}
use Rattle.term.specs.Calls.{application_faults, add_application}
use Rattle.term.proofs.CallLaws.{application-fits, adding-refuses, adding-gains}
use Rattle.term.proofs.add_application.Goals as goal

pub returns-in_err-check_application-clause-added : goal.returns-in_err-check_application-clause-added
unfolding add_application
returns-in_err-check_application-clause-added c =
    let g = c.args in
    let p = err_from_is_err_and c.from_residual.result c.from_residual.ensures.1 in
    rw (p.1, p.2) (adding-refuses (held g.store.now) (application g.name.now g.children.now) (application_faults (held g.store.now) g.name.now g.children.now) _
    (rw c.lent.ensures at c.in_err-check_application.ensures.faults))

pub intern_application-requires : goal.intern_application-requires
intern_application-requires c =
    let g = c.args in
    let f = application-fits (held g.store.now) g.name.now g.children.now
    (rw c.lent.ensures at c.in_ok-check_application.ensures.faults) in
    record { sound = f.0; named = f.1.0; children_len_bound = f.1.1 }

pub returns-in_default-clause-added : goal.returns-in_default-clause-added
unfolding add_application
returns-in_default-clause-added c =
    let g = c.args in
    adding-gains (held g.store.now) (application g.name.now g.children.now) (application_faults (held g.store.now) g.name.now g.children.now) (None) _
    (rw c.lent.ensures at c.in_ok-check_application.ensures.faults) (rw (c.in_default.is) at c.intern_application.ensures.gains)

pub returns-clause-added : goal.returns-clause-added
unfolding add_application
returns-clause-added c =
    let g = c.args in
    adding-gains (held g.store.now) (application g.name.now g.children.now) (application_faults (held g.store.now) g.name.now g.children.now) (Some _) _
    (rw c.lent.ensures at c.in_ok-check_application.ensures.faults) (rw (c.in-Some.is) at c.intern_application.ensures.gains)
