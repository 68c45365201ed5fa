-- `price_marks::marks::mark_from` meets its contract: who is on the chain is marked or still to come. Assumes nothing.
use Rattle.price_marks.specs.Passes.{SameMarks}
use Rattle.price_marks.proofs.MarkLaws.{DownTo}
use Rattle.price_marks.proofs.marks.mark_from.Given as goal

abbrev pub invariant-loop-g : goal.invariant-loop-g
invariant-loop-g l = SameMarks l.initial.marks l.marks
    × DownTo l.next l.owner l.h l.initial.marks.rows.now l.initial.marks.blocks.now l.g l.marks.rows.now l.marks.blocks.now

abbrev pub decreases-loop-g : goal.decreases-loop-g
decreases-loop-g l = l.g
