-- `term::find_application` meets its contract. The tests, and then the application is looked for. Assumes nothing.
use Rattle.std.proofs.lemmas.Result.{err_from_is_err_and}
use mathlib.Core.Path.{sym, ◌∙◌}
use Rattle.std.specs.Prelude.{Some, None}
use Rattle.term_rules.specs.Lent.{Store}
use Rattle.term_rules.specs.Nodes.{application}
use Rattle.term_rules.specs.Adding.{find_term}
use Rattle.term_layout.specs.Sound.{lent_of}
use Rattle.term.specs.Calls.{application_faults, find_application}
use Rattle.term.proofs.CallLaws.{application-fits, of-lent, finding-refuses, finding-told}
use Rattle.term.proofs.find_application.Goals as goal

pub returns-in_err-store : goal.returns-in_err-store
unfolding find_application
returns-in_err-store c =
    let g = c.args in
    let p = err_from_is_err_and c.from_residual.result c.from_residual.ensures.1 in
    rw (p.1, p.2) (finding-refuses (lent_of g.lent.now) (application g.name.now g.children.now) (application_faults (lent_of g.lent.now) g.name.now g.children.now) _ c.in_err-store.ensures.faults)

pub find_application-requires : goal.find_application-requires
find_application-requires c =
    let g = c.args in
    let f = application-fits (lent_of g.lent.now) g.name.now g.children.now c.in_ok-store.ensures.faults in
    record { children_len_bound = f.1.1 }

pub returns-in_default : goal.returns-in_default
unfolding find_application
returns-in_default c =
    let g = c.args in
    finding-told (lent_of g.lent.now) (application g.name.now g.children.now) (application_faults (lent_of g.lent.now) g.name.now g.children.now) (None) c.in_ok-store.ensures.faults
    (sym c.in_default.is ∙ of-lent (λ (s : Store). find_term s (application g.name.now g.children.now)) c.find_application.ensures c.in_ok-store.ensures.same)

pub returns : goal.returns
unfolding find_application
returns c =
    let g = c.args in
    finding-told (lent_of g.lent.now) (application g.name.now g.children.now) (application_faults (lent_of g.lent.now) g.name.now g.children.now) (Some _) c.in_ok-store.ensures.faults
    (sym c.in-Some.is ∙ of-lent (λ (s : Store). find_term s (application g.name.now g.children.now)) c.find_application.ensures c.in_ok-store.ensures.same)
