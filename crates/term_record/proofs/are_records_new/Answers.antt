-- `term_record::are_records_new` meets its contract: each record is looked for in its bucket, and put there. Assumes
-- nothing.
use Prim.Native.Nat.{ℕ}
use mathlib.Core.Path.{refl, sym, subst, ◌∙◌}
use borrow.Author.Tests.{not-true, not-false}
use lib.ListN.{get_or}
use Rattle.term_rules.proofs.TestLaws.{every-fails, every-end}
use Rattle.term_record.specs.Flat.{fresh_record}
use Rattle.term_record.specs.Buckets.{Last, bucket_in}
use Rattle.term_record.proofs.BucketLaws.{placed-none, placed-more}
use native.Mathlib.Omega.{arith}
use Rattle.term_record.proofs.are_records_new.Goals as goal

pub loop-i-init : goal.loop-i-init
loop-i-init c =
    let g = c.args in
    placed-none g.records.now g.literals.now g.terms 1021 1024 refl refl

pub is_new_record-requires : goal.is_new_record-requires
is_new_record-requires c =
    let g = c.args in
    let l = c.loop-i in
    let e = c.bucket-b.ensures in
    record {
      in_records = record { numbers = omega arith; literal = omega arith };
      chained = l.invariant.nexts_are;
      last = subst (λ (x : ℕ). Last (bucket_in g.records.now g.literals.now) x l.i
          (get_or l.lasts c.bucket-b.result 0)) e.value
          (l.invariant.lasts_are c.bucket-b.result e.upper_bound);
      i_in_bounds = omega
          (arith, l.invariant.nexts_long, l.invariant.few, c.requires.1.1);
    }

pub returns-then-not-is_new_record : goal.returns-then-not-is_new_record
returns-then-not-is_new_record c =
    let g = c.args in
    let l = c.loop-i in
    sym (every-fails (fresh_record g.records.now g.literals.now) g.terms l.i (omega arith)
    (sym c.is_new_record.ensures ∙ not-true _ c.if-not-is_new_record.true-raw))

pub loop-i-preserved : goal.loop-i-preserved
loop-i-preserved c =
    let l = c.loop-i in
    let e = c.bucket-b.ensures in
    placed-more c.args.records.now c.args.literals.now c.args.terms l.lasts l.nexts l.i
    c.bucket-b.result l.invariant (omega arith) c.requires.1.1 e.value e.upper_bound
    (sym c.is_new_record.ensures ∙ not-false _ c.if-not-is_new_record.false-raw)

pub returns : goal.returns
returns c =
    let g = c.args in
    let l = c.loop-i in
    sym (every-end (fresh_record g.records.now g.literals.now) l.i g.terms l.invariant.few
    (omega arith) l.invariant.new)
