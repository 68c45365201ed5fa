-- `lent_terms::application_added` meets its contract: the call's answer, with the counts that the store has then. Assumes
-- nothing.
use mathlib.Core.Path.{sym}
use Rattle.std.proofs.lemmas.Result.{err_from_is_err_and}
use Rattle.term_rules.specs.Lent.{Store, store}
use Rattle.term_add.specs.Held.{held}
use Rattle.term.specs.Calls.{add_application}
use Rattle.term.proofs.Promises.{promises}
use Rattle.lent_terms.proofs.AddedLaws.{told-refused}
use Rattle.lent_terms.proofs.application_added.Goals as goal

pub returns-in_err-term : goal.returns-in_err-term
returns-in_err-term c =
    let g = c.args in
    let s = store g.records.now g.literals.now g.names.now g.terms g.symbols in
    let p = err_from_is_err_and c.from_residual.result c.from_residual.ensures.1 in
    let q = c.in_err-term in
    let rs = q.records-1-own.given.1.1 (sym q.ensures.loans.records) in
    let ls = q.literals-1-own.given.1.1 (sym q.ensures.loans.literals) in
    let ns = q.names-1-own.given.1.1 (sym q.ensures.loans.names) in
    let e = rw (← p.2) at q.ensures.added in
    rw (rs, ls, ns) (
    told-refused (λ (t : Store). add_application t g.name.now g.children.now) s (promises.application_added s g.name.now g.children.now).unchanged
    c.from_residual.result p.0 (held c.add_application.new.store) p.1 e)
