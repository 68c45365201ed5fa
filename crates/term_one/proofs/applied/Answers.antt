-- `term_one::applied` meets its contract. The children are checked, then the application is interned. Assumes nothing.
use mathlib.Core.Path.{sym, ◌∙◌}
use Rattle.term_add.specs.Held.{held}
use Rattle.term_rules.specs.Nodes.{application}
use Rattle.term.specs.Calls.{application_faults, add_application}
use Rattle.term.proofs.CallLaws.{adding-refuses, adding-gains}
use Rattle.term_one.proofs.AskedLaws.{applied-fails, applied-passes}
use Rattle.term_one.proofs.applied.Goals as goal

pub returns-then-not-all_below-clause-added : goal.returns-then-not-all_below-clause-added
unfolding add_application
returns-then-not-all_below-clause-added c =
    let g = c.args in
    let s = held g.store.now in
    adding-refuses s (application g.name.now g.children.now) (application_faults s g.name.now g.children.now) _
    (applied-fails s c.requires.sound g.name.now g.children.now c.requires.name_value
    c.requires.children_len_bound (sym c.all_below.ensures ∙ c.if-not-all_below.true))

pub returns-clause-added : goal.returns-clause-added
unfolding add_application
returns-clause-added c =
    let g = c.args in
    let s = held g.store.now in
    rw c.ok_or.ensures.value
    (adding-gains s (application g.name.now g.children.now) (application_faults s g.name.now g.children.now) _ _
    (applied-passes s c.requires.sound g.name.now g.children.now c.requires.name_value
    c.requires.children_len_bound (sym c.all_below.ensures ∙ c.if-not-all_below.false))
    c.intern_application.ensures.gains)
