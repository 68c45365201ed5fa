-- `term_record::bucket` meets its contract. Assumes nothing.
use mir.Facts.{to_z-of_z}
use Rattle.term_record.proofs.BucketLaws.{bucket-is}
use native.Mathlib.Omega.{arith}
use Rattle.term_record.proofs.bucket.Goals as goal

pub returns : goal.returns
returns c =
    let g = c.args in
    record {
      value = bucket-is g.records.now g.literals.now g.i c.digest-h.result
          c.unsigned_abs-m.result (rw (c.symbol_of.ensures, c.places_of.ensures) at c.digest-h.ensures.value)
          (rw (to_z-of_z (record { sfits = c.unsigned_abs-arg-1.given })) at c.unsigned_abs-m.ensures.value);
      upper_bound = omega arith;
    }
