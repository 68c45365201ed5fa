-- `term_record::are_records_new` meets its contract: each record is looked for in its bucket, and put there. Assumes
-- nothing.
use Rattle.term_record.proofs.BucketLaws.{Placed}
use Rattle.term_record.proofs.are_records_new.Given as goal

abbrev pub invariant-loop-i : goal.invariant-loop-i
invariant-loop-i l = Placed l.records l.literals l.terms l.lasts l.nexts l.i
