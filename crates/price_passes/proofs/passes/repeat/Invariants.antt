-- `price_passes::passes::repeat` meets its contract: at most as many passes change something as there are classes. Assumes
-- nothing.
use Prim.Native.Nat.{◌-◌}
use lib.ListN.{length}
use Rattle.price_passes.specs.Flat.{flat_of, state_of}
use Rattle.price_passes.proofs.RepeatLaws.{Repeated}
use Rattle.price_passes.proofs.passes.repeat.Given as goal

abbrev pub invariant-loop-l : goal.invariant-loop-l
invariant-loop-l l = Repeated (flat_of l.rows) (length l.initial.ranks) (state_of l.costs l.ranks l.l) l.p

abbrev pub decreases-loop-l : goal.decreases-loop-l
decreases-loop-l l = length l.initial.ranks - l.p
