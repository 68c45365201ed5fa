-- `term::check_terms` meets its contract. One test. Assumes nothing.
use mathlib.Core.Path.{sym, ◌∙◌}
use Rattle.term.specs.Calls.{terms_faults}
use Rattle.term.proofs.CallLaws.{unless-yes, unless-no}
use Rattle.term.proofs.check_terms.Goals as goal

pub returns-then-not-all_below : goal.returns-then-not-all_below
unfolding terms_faults
returns-then-not-all_below c = unless-no _ _ _ (sym c.all_below.ensures ∙ c.if-not-all_below.true)

pub returns : goal.returns
unfolding terms_faults
returns c = unless-yes _ _ _ (sym c.all_below.ensures ∙ c.if-not-all_below.false)
