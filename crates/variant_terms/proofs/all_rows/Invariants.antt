-- `variant_terms::all_rows` meets its contract. The loop's invariant is `Turn`: the rows before place j are built as
-- the definition builds them. Assumes nothing.
use lib.ListN.{length}
use Rattle.term_add.specs.Held.{held, SameLoans}
use Rattle.build.specs.Plan.{plan_in, children_of}
use Rattle.build.specs.Building.{state}
use Rattle.variant_terms.specs.Turned.{name_in}
use Rattle.variant_terms.proofs.TurnLaws.{Turn}
use Rattle.variant_terms.proofs.all_rows.Given as goal

abbrev pub invariant-loop-j : goal.invariant-loop-j
invariant-loop-j l = SameLoans l.initial.store l.store
    × Turn (plan_in l.plan) l.ranks (name_in l.plan.labels.now l.plan.rows.now) (children_of l.plan.rows.now l.plan.values.now)
    (state l.initial.memo (held l.initial.store)) l.list (state l.memo (held l.store))
    (length l.initial.found) l.found l.j
