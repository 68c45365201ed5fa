-- `term::check_application` meets its contract. The tests of the store and the name, and then the children's. Assumes nothing.
use mathlib.Core.Path.{◌∙◌}
use borrow.Author.Tests.{lt-leb, le-leb}
use Rattle.std.proofs.lemmas.Result.{err_from_is_err_and}
use Rattle.term_rules.specs.Lent.{Store}
use Rattle.term_layout.specs.Sound.{lent_of}
use Rattle.term.specs.Calls.{terms_faults}
use Rattle.term.proofs.CallLaws.{unless-yes, unless-no, of-lent, application-then}
use Rattle.term.proofs.check_application.Goals as goal

pub returns-in_err-store-clause-faults : goal.returns-in_err-store-clause-faults
returns-in_err-store-clause-faults c =
    let g = c.args in
    let p = err_from_is_err_and c.from_residual.result c.from_residual.ensures.1 in
    rw (p.1, p.2) (application-then (lent_of g.lent.now) g.name.now g.children.now _ c.in_err-store.ensures.faults)

pub returns-then-children-gt8-clause-faults : goal.returns-then-children-gt8-clause-faults
returns-then-children-gt8-clause-faults c =
    let g = c.args in
    unless-no _ _ _ (lt-leb _ 8 c.if-children-gt8.true)
    ∙ application-then (lent_of g.lent.now) g.name.now g.children.now _ c.in_ok-store.ensures.faults

pub returns-in_err-check_terms-clause-faults : goal.returns-in_err-check_terms-clause-faults
returns-in_err-check_terms-clause-faults c =
    let g = c.args in
    let p = err_from_is_err_and c.from_residual-in_err-check_terms.result c.from_residual-in_err-check_terms.ensures.1 in
    rw (p.1, p.2) (
    of-lent (λ (s : Store). terms_faults s.terms g.children.now) c.in_err-check_terms.ensures
    c.in_ok-store.ensures.same
    ∙ unless-yes _ _ _ (le-leb _ 8 c.if-children-gt8.false)
    ∙ application-then (lent_of g.lent.now) g.name.now g.children.now _ c.in_ok-store.ensures.faults)

pub returns-clause-faults : goal.returns-clause-faults
returns-clause-faults c =
    let g = c.args in
    of-lent (λ (s : Store). terms_faults s.terms g.children.now) c.in_ok-check_terms.ensures c.in_ok-store.ensures.same
    ∙ unless-yes _ _ _ (le-leb _ 8 c.if-children-gt8.false)
    ∙ application-then (lent_of g.lent.now) g.name.now g.children.now _ c.in_ok-store.ensures.faults
