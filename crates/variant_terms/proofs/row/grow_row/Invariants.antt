-- `row::grow_row` meets its contract. The loop's invariant is `Turn`: the children before place j are built as
-- the definition builds them. Assumes nothing.
use Rattle.term_add.specs.Held.{held, SameLoans}
use Rattle.build.specs.Plan.{plan_in}
use Rattle.build.specs.Building.{state}
use Rattle.variant_terms.proofs.row.TurnLaws.{Turn}
use Rattle.variant_terms.proofs.row.grow_row.Given as goal

abbrev pub invariant-loop-j : goal.invariant-loop-j
invariant-loop-j l = SameLoans l.initial.store l.store
    × Turn (plan_in l.plan) l.ranks l.plan.values.now (state l.initial.memo (held l.initial.store))
    l.kids
    (state l.memo (held l.store)) l.children l.j
