-- `price_marks::run::repeat_marked` meets its contract: at most as many passes change something as there are classes.
-- Assumes nothing.
use Prim.Native.Nat.{◌-◌}
use lib.ListN.{length}
use Rattle.price_passes.specs.Flat.{flat_of, state_of}
use Rattle.price_marks.proofs.RunLaws.{Going}
use Rattle.price_marks.proofs.run.repeat_marked.Given as goal

abbrev pub invariant-loop-l : goal.invariant-loop-l
invariant-loop-l l = Going (flat_of l.rows) (length l.initial.ranks) (state_of l.costs l.ranks l.l) l.p l.marks.rows.now l.marks.blocks.now

abbrev pub decreases-loop-l : goal.decreases-loop-l
decreases-loop-l l = length l.initial.ranks - l.p
