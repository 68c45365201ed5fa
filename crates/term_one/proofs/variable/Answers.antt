-- `term_one::variable` meets its contract. The name is checked, then the variable is interned. Assumes nothing.
use mathlib.Core.Path.{sym, ◌∙◌}
use Rattle.term_add.specs.Held.{held}
use Rattle.term_rules.specs.Nodes.{variable}
use Rattle.term.specs.Calls.{variable_faults, add_variable}
use Rattle.term.proofs.CallLaws.{adding-refuses, adding-gains}
use Rattle.term_one.proofs.AskedLaws.{name-fails, name-passes}
use Rattle.term_one.proofs.variable.Goals as goal

pub returns-then-not-is_valid-clause-added : goal.returns-then-not-is_valid-clause-added
unfolding add_variable
returns-then-not-is_valid-clause-added c =
    let g = c.args in
    let s = held g.store.now in
    adding-refuses s (variable g.name.now) (variable_faults s g.name.now) _
    (name-fails s c.requires g.name.now (sym c.is_valid.ensures ∙ c.if-not-is_valid.true))

pub returns-clause-added : goal.returns-clause-added
unfolding add_variable
returns-clause-added c =
    let g = c.args in
    let s = held g.store.now in
    rw c.ok_or.ensures.value
    (adding-gains s (variable g.name.now) (variable_faults s g.name.now) _ _
    (name-passes s c.requires g.name.now (sym c.is_valid.ensures ∙ c.if-not-is_valid.false))
    c.intern_variable.ensures.gains)
