-- `term_record::is_new_record` meets its contract: a walk down its bucket. Assumes nothing.
use Rattle.term_record.proofs.BucketLaws.{Walked}
use Rattle.term_record.proofs.is_new_record.Given as goal

abbrev pub invariant-loop-p : goal.invariant-loop-p
invariant-loop-p l = Walked l.records l.literals l.i l.p

abbrev pub decreases-loop-p : goal.decreases-loop-p
decreases-loop-p l = l.p
