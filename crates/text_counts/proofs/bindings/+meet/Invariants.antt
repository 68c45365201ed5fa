-- `bindings::meet` meets its contract: nothing if bound already, else the children, then the term. Assumes nothing.
use mathlib.Core.Path.{◌≡◌}
use Rattle.term_rules.specs.Lent.{kids_at}
use Rattle.text_counts.specs.Met.{wanted_at}
use Rattle.text_counts.specs.Loans.{SameLoans}
use Rattle.text_counts.proofs.bindings.TableLaws.{Turning}
use Rattle.text_counts.proofs.bindings.+meet.Given as goal

abbrev pub invariant-loop-k : goal.invariant-loop-k
invariant-loop-k l = (l.ks ≡ kids_at l.records l.t)
    × (Turning (kids_at l.records) (wanted_at l.wanted) l.i l.t (kids_at l.records l.t) l.initial.found.places.now
    l.initial.found.terms.now l.initial.found.indents.now l.initial.found.count l.found.places.now l.found.terms.now
    l.found.indents.now l.found.count
    l.k-index
    × SameLoans l.initial.found l.found)

abbrev pub decreases-meet : goal.decreases-meet
decreases-meet l = l.t
