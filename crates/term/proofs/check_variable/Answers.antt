-- `term::check_variable` meets its contract. The store's test, and then the name's. Assumes nothing.
use mathlib.Core.Path.{sym, ◌∙◌}
use Rattle.std.proofs.lemmas.Result.{err_from_is_err_and}
use Rattle.term_layout.specs.Sound.{lent_of}
use Rattle.term.proofs.CallLaws.{unless-yes, unless-no, variable-then}
use Rattle.term.proofs.check_variable.Goals as goal

pub returns-in_err-store-clause-faults : goal.returns-in_err-store-clause-faults
returns-in_err-store-clause-faults c =
    let p = err_from_is_err_and c.from_residual.result c.from_residual.ensures.1 in
    rw (p.1, p.2) (variable-then (lent_of c.args.lent.now) c.args.name.now _ c.in_err-store.ensures.faults)

pub returns-then-not-is_valid-clause-faults : goal.returns-then-not-is_valid-clause-faults
returns-then-not-is_valid-clause-faults c =
    unless-no _ _ _ (sym c.is_valid.ensures ∙ c.if-not-is_valid.true)
    ∙ variable-then (lent_of c.args.lent.now) c.args.name.now _ c.in_ok-store.ensures.faults

pub returns-clause-faults : goal.returns-clause-faults
returns-clause-faults c =
    unless-yes _ _ _ (sym c.is_valid.ensures ∙ c.if-not-is_valid.false)
    ∙ variable-then (lent_of c.args.lent.now) c.args.name.now _ c.in_ok-store.ensures.faults
