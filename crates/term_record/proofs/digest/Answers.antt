-- `term_record::digest` meets its contract. The numbers are taken in order. Assumes nothing.
use mathlib.Core.Path.{sym, ◌∙◌}
use Rattle.term_record.proofs.BucketLaws.{digest-more, digest-end}
use native.Mathlib.Omega.{arith}
use Rattle.term_record.proofs.digest.Goals as goal

pub loop-x-preserved : goal.loop-x-preserved
loop-x-preserved c =
    let l = c.loop-x in
    (omega arith, digest-more c.args.s.now l.h l.x-index (omega arith) ∙ l.invariant.1)

pub returns : goal.returns
returns c =
    let l = c.loop-x in
    record {
      value = sym (digest-end c.args.s.now l.h l.x-index (omega arith) (omega arith)) ∙ l.invariant.1;
      upper_bound = l.invariant.0;
    }
