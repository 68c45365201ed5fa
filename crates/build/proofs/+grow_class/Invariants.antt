-- `build::grow_class` meets its contract. It calls itself on each child class at a level one lower: the level is the
-- measure. The loop's invariant is `Turn`: the children before j are built as the definition builds them. Assumes
-- nothing.
use mathlib.Core.Path.{◌≡◌}
use lib.ListN.{get_or}
use Rattle.table_layout.specs.Rows.{children_at}
use Rattle.term_add.specs.Held.{held, SameLoans}
use Rattle.build.specs.Plan.{plan_in}
use Rattle.build.specs.Building.{state}
use Rattle.build.proofs.TurnLaws.{Turn}
use Rattle.build.proofs.+grow_class.Given as goal

abbrev pub invariant-loop-j : goal.invariant-loop-j
invariant-loop-j l = (l.i ≡ get_or l.plan.edges.now l.c 0)
    × ((l.kids ≡ children_at l.plan.rows.now (get_or l.plan.edges.now l.c 0))
    × (SameLoans l.initial.store l.store
    × Turn (plan_in l.plan) l.level l.plan.values.now (children_at l.plan.rows.now (get_or l.plan.edges.now l.c 0))
    (state l.initial.memo (held l.initial.store)) (state l.memo (held l.store))
    l.children l.j))

abbrev pub decreases-grow_class : goal.decreases-grow_class
decreases-grow_class l = l.level
