-- `price_passes::rows::cost` meets its contract: the sum so far and the children from the next on make the row's cost.
-- Assumes nothing.
use Prim.Native.Nat.{◌<◌, ◌+◌, ◌^◌, min}
use mathlib.Core.Path.{◌≡◌}
use mathlib.Core.List.{map}
use lib.ListN.{drop}
use Rattle.choice_rules.specs.Rows.{sum_of}
use Rattle.choice_rules.specs.Run.{child_cost}
use Rattle.price_passes.specs.Flat.{top, child_of}
use Rattle.price_passes.proofs.rows.cost.Given as goal

abbrev pub invariant-loop-child : goal.invariant-loop-child
invariant-loop-child l = (l.sum < 2 ^ 64)
    × (min top (l.sum + sum_of (child_cost l.costs) (map child_of (drop l.child-index l.kids)))
    ≡ min top (l.head + sum_of (child_cost l.costs) (map child_of l.kids)))
