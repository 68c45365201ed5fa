-- `term::check_store` meets its contract. One test. Assumes nothing.
use mathlib.Core.Path.{sym, ◌∙◌}
use Rattle.term.specs.Calls.{literal_faults}
use Rattle.term.proofs.CallLaws.{unless-yes, unless-no}
use Rattle.term.proofs.check_store.Goals as goal

pub returns-then-not-is_well_formed-clause-faults : goal.returns-then-not-is_well_formed-clause-faults
unfolding literal_faults
returns-then-not-is_well_formed-clause-faults c =
    unless-no _ _ _ (sym c.is_well_formed.ensures ∙ c.if-not-is_well_formed.true)

pub returns-clause-faults : goal.returns-clause-faults
unfolding literal_faults
returns-clause-faults c =
    unless-yes _ _ _ (sym c.is_well_formed.ensures ∙ c.if-not-is_well_formed.false)
