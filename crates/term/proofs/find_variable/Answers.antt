-- `term::find_variable` meets its contract. The tests, and then the variable is looked for. Assumes nothing.
use Rattle.std.proofs.lemmas.Result.{err_from_is_err_and}
use mathlib.Core.Path.{sym, ◌∙◌}
use Rattle.std.specs.Prelude.{Some, None}
use Rattle.term_rules.specs.Lent.{Store}
use Rattle.term_rules.specs.Nodes.{variable}
use Rattle.term_rules.specs.Adding.{find_term}
use Rattle.term_layout.specs.Sound.{lent_of}
use Rattle.term.specs.Calls.{variable_faults, find_variable}
use Rattle.term.proofs.CallLaws.{of-lent, finding-refuses, finding-told}
use Rattle.term.proofs.find_variable.Goals as goal

pub returns-in_err-store : goal.returns-in_err-store
unfolding find_variable
returns-in_err-store c =
    let g = c.args in
    let p = err_from_is_err_and c.from_residual.result c.from_residual.ensures.1 in
    rw (p.1, p.2) (finding-refuses (lent_of g.lent.now) (variable g.name.now) (variable_faults (lent_of g.lent.now) g.name.now) _ c.in_err-store.ensures.faults)

pub returns-in_default : goal.returns-in_default
unfolding find_variable
returns-in_default c =
    let g = c.args in
    finding-told (lent_of g.lent.now) (variable g.name.now) (variable_faults (lent_of g.lent.now) g.name.now) (None) c.in_ok-store.ensures.faults
    (sym c.in_default.is ∙ of-lent (λ (s : Store). find_term s (variable g.name.now)) c.find_variable.ensures c.in_ok-store.ensures.same)

pub returns : goal.returns
unfolding find_variable
returns c =
    let g = c.args in
    finding-told (lent_of g.lent.now) (variable g.name.now) (variable_faults (lent_of g.lent.now) g.name.now) (Some _) c.in_ok-store.ensures.faults
    (sym c.in-Some.is ∙ of-lent (λ (s : Store). find_term s (variable g.name.now)) c.find_variable.ensures c.in_ok-store.ensures.same)
