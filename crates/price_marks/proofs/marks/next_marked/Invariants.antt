-- `price_marks::marks::next_marked` meets its contract: no row passed is marked. Assumes nothing.
use mathlib.Core.Path.{◌≡◌}
use Prim.Native.Nat.{◌-◌}
use lib.ListN.{length}
use Rattle.price_marks.specs.Marks.{Next}
use Rattle.price_marks.proofs.marks.next_marked.Given as goal

abbrev pub invariant-loop-i : goal.invariant-loop-i
invariant-loop-i l = Next l.marks l.initial.blocks l.blocks l.from l.i × (length l.blocks ≡ length l.initial.blocks)

abbrev pub decreases-loop-i : goal.decreases-loop-i
decreases-loop-i l = 1024 - l.i
