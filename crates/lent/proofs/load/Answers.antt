-- `lent::load` meets its contract: each record is copied as it stands. Assumes nothing.
use Rattle.std.proofs.Common.{◌≡◌, ℕ, length, refl, sym, ap, ◌∙◌, subst, arith}
use Rattle.std.proofs.Math.ListN.{length-set}
use Rattle.std.proofs.Math.Seq.{length-paste}
use Rattle.term_rules.specs.Lent.{records_length, numbers, width}
use Rattle.lent.specs.declared.copied.Flat.{Flat}
use Rattle.lent.proofs.CopyLaws.{Copied, copied_none, copied_more, copied-whole}
use Rattle.lent.proofs.load.Goals as goal

pub loop-i-init : goal.loop-i-init
loop-i-init c =
    record {
      room = refl;
      long = omega arith;
      wide = omega arith;
      copied = copied_none _ _ _;
    }

pub loop-i-preserved : goal.loop-i-preserved
loop-i-preserved c = let l = c.loop-i.invariant in
    let put = c.put_flat.ensures in
    record {
      room = ap (λ (f : Flat). f.room) put ∙ l.room;
      long =
          ap (λ (f : Flat). length f.records) put
          ∙ length-paste c.loop-i.flat.records (records_length c.loop-i.i) (numbers c.record_at.result) width
          (omega arith) (omega arith)
          ∙ l.long;
      wide = ap (λ (f : Flat). length f.literals) put ∙ simp length-set l.wide;
      copied =
          rw put
          (copied_more c.args.ts.now c.loop-i.i c.loop-i.flat.records c.loop-i.flat.literals c.record_at.result
          (omega arith) c.record_at.ensures.0 c.record_at.ensures.1 (omega arith) (omega arith) l.copied);
    }

pub returns : goal.returns
returns c = let l = c.loop-i.invariant in
    let e : c.loop-i.i ≡ c.min-room.result = omega arith in
    copied-whole c.args.ts.now c.loop-i.flat (l.room ∙ c.min-room.ensures) l.long l.wide
    (subst (λ (i : ℕ). Copied c.args.ts.now i c.loop-i.flat.records c.loop-i.flat.literals) (e ∙ sym l.room) l.copied)
