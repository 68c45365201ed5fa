-- `price_marks::passes::one_pass` meets its contract: the rows from the i-th on make the rest of the plain pass.
-- Assumes nothing.
use Prim.Native.Nat.{◌-◌}
use Rattle.price_passes.specs.Flat.{flat_of, state_of}
use Rattle.price_marks.specs.Passes.{SameMarks}
use Rattle.price_marks.proofs.WalkLaws.{Walked}
use Rattle.price_marks.proofs.passes.one_pass.Given as goal

abbrev pub invariant-loop-i : goal.invariant-loop-i
invariant-loop-i l = SameMarks l.initial.marks l.marks
    × Walked (flat_of l.rows) (state_of l.initial.costs l.initial.ranks l.last) (state_of l.costs l.ranks l.l) l.marks.rows.now l.marks.blocks.now l.i

abbrev pub decreases-loop-i : goal.decreases-loop-i
decreases-loop-i l = 1024 - l.i
