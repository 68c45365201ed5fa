-- `variant_lines::put_one` meets its contract: the line, the plain text in the tail, the newline. Assumes nothing.
use Prim.Native.Nat.{ℕ, ◌+◌, ◌-◌, ◌≤◌}
use mathlib.Core.Path.{◌≡◌, ◌∙◌}
use mathlib.Core.Bool.{false}
use mathlib.Core.List.{List}
use lib.ListN.{length, set, take, drop, length-set}
use Rattle.decimal.specs.Written.{Wrote}
use Rattle.term_rules.specs.Nodes.{Node}
use Rattle.text_rules.specs.PlainText.{plain_line}
use Rattle.text_pieces.specs.Readable.{nodes}
use Rattle.text_write.specs.Piece.{piece, view, Sheet}
use borrow.Rule.Slice.PartMut.{put_mid}
use Rattle.program_rules.specs.Lines.{variant_line}
use Rattle.program_rules.specs.Step.{Step}
use Rattle.program.specs.Replies.{reply_text}
use Rattle.program.proofs.variant_lines.ReplyLaws.{reply-length, line-room, fits-tail, one-step}
use Rattle.program.proofs.variant_lines.SheetLaws.{sheet-is, piece_is}
use native.Mathlib.Omega.{arith}
use Rattle.program.proofs.variant_lines.put_one.Goals.{Start}
use Rattle.program.proofs.variant_lines.put_one.Goals as goal

abbrev seen : Start → ℕ → Node
seen s = nodes s.args.records.now s.args.literals.now s.args.names.now

sheet :
    (s : Start) →
    Sheet s.args.records.now s.args.literals.now s.args.names.now s.args.places.now
    s.args.wides.now s.args.n 0
sheet s =
    sheet-is s.args.records.now s.args.literals.now s.args.names.now s.args.places.now
    s.args.wides.now s.args.n s.requires.plain_sheet

abbrev asked : Start → List ℕ
asked s =
    piece
    (view s.args.records.now s.args.literals.now s.args.names.now s.args.places.now
    s.args.wides.now s.args.names.now 0 false 18446744073709551615) 0 0 0 s.args.t

text : (s : Start) → asked s ≡ plain_line (seen s) s.args.t
text s =
    piece_is s.args.records.now s.args.literals.now s.args.names.now s.args.places.now
    s.args.wides.now s.args.n s.requires.plain_sheet s.args.t s.requires.t_lt_n

-- what is known after the line
after_line :
    (s : Start) (a : ℕ) (o : List ℕ) →
    Step (variant_line s.args.i s.args.c s.args.n) s.args.p a s.args.out.now o →
    (a + length (plain_line (seen s) s.args.t) + 1 ≤ length o) × (length o ≡ length s.args.out.now)
after_line s a o h =
    line-room (seen s) s.args.n s.args.out.now s.args.p s.args.i s.args.c s.args.t
    s.requires.t_in_bounds a o h

wrote :
    (s : Start) (o : List ℕ) (a : ℕ) {r : ℕ} {q : List ℕ} →
    Wrote (asked s) r (take (length o - a) (drop a o)) q →
    Wrote (plain_line (seen s) s.args.t) r (take (length o - a) (drop a o)) q
wrote s o a w = rw (text s) at w

-- and after the text
after_text :
    (s : Start) (a : ℕ) (o : List ℕ) →
    Step (variant_line s.args.i s.args.c s.args.n) s.args.p a s.args.out.now o →
    (r : ℕ) (q : List ℕ) →
    Wrote (plain_line (seen s) s.args.t) r (take (length o - a) (drop a o)) q →
    (a + r + 1 ≤ length s.args.out.now)
    × ((length (put_mid a (length o - a) o q) ≡ length s.args.out.now)
    × Step (reply_text (seen s) s.args.n s.args.i s.args.c s.args.t) s.args.p (a + r + 1)
    s.args.out.now (set (put_mid a (length o - a) o q) (a + r) 10))
after_text s a o h r q w =
    one-step (seen s) s.args.n s.args.out.now s.args.p s.args.i s.args.c s.args.t
    s.requires.t_in_bounds a o h
    r q w

pub put_variant-a-requires : goal.put_variant-a-requires
put_variant-a-requires c =
    omega (arith, c.requires.t_in_bounds, reply-length (seen (goal.at.put_variant-a-requires c).Start) c.args.n c.args.i c.args.c c.args.t)

pub slice_bounds-put-count : goal.slice_bounds-put-count
slice_bounds-put-count c =
    omega (
      arith,
      (after_line (goal.at.slice_bounds-put-count c).Start
          c.put_variant-a.result c.put_variant-a.new.out
          c.put_variant-a.ensures).0,
    )

pub slice_bounds-put-start : goal.slice_bounds-put-start
slice_bounds-put-start c =
    omega (
      arith,
      (after_line (goal.at.slice_bounds-put-start c).Start
          c.put_variant-a.result c.put_variant-a.new.out
          c.put_variant-a.ensures).0,
    )

pub put-requires : goal.put-requires
put-requires c =
    record {
      sheet = sheet (goal.at.put-requires c).Start;
      t_lt_n = c.requires.t_lt_n;
      t_bound = omega (arith, c.requires.plain_sheet.readable.few, c.requires.t_lt_n);
      t_in_bounds = rw (text (goal.at.put-requires c).Start)
          (fits-tail c.put_variant-a.new.out (plain_line (seen (goal.at.put-requires c).Start) c.args.t)
          c.put_variant-a.result (omega (
            arith,
            (after_line (goal.at.put-requires c).Start c.put_variant-a.result
                c.put_variant-a.new.out c.put_variant-a.ensures
                ).0,
          )));
    }

pub overflow_add-e : goal.overflow_add-e
overflow_add-e c =
    omega (
      arith,
      (after_text (goal.at.overflow_add-e c).Start c.put_variant-a.result
          c.put_variant-a.new.out
          c.put_variant-a.ensures c.put.result
          c.put.new.out (wrote (goal.at.overflow_add-e c).Start
          c.put_variant-a.new.out
          c.put_variant-a.result c.put.ensures)
          ).0,
    )

pub bounds-out-e : goal.bounds-out-e
bounds-out-e c =
    let m = after_text (goal.at.bounds-out-e c).Start c.put_variant-a.result
    c.put_variant-a.new.out
    c.put_variant-a.ensures c.put.result
    c.put.new.out (wrote (goal.at.bounds-out-e c).Start
    c.put_variant-a.new.out
    c.put_variant-a.result c.put.ensures) in
    omega (arith, m.0, m.1.0)

pub overflow_add-result : goal.overflow_add-result
overflow_add-result c =
    omega (
      arith,
      (after_text (goal.at.overflow_add-result c).Start c.put_variant-a.result
          c.put_variant-a.new.out
          c.put_variant-a.ensures c.put.result
          c.put.new.out (wrote (goal.at.overflow_add-result c).Start
          c.put_variant-a.new.out
          c.put_variant-a.result c.put.ensures)
          ).0,
    )

pub shape_of-out : goal.shape_of-out
shape_of-out c =
    length-set (put_mid c.put_variant-a.result
    (length c.put_variant-a.new.out - c.put_variant-a.result)
    c.put_variant-a.new.out c.put.new.out)
    (c.put_variant-a.result + c.put.result) 10
    ∙ (after_text (goal.at.shape_of-out c).Start c.put_variant-a.result
    c.put_variant-a.new.out
    c.put_variant-a.ensures c.put.result
    c.put.new.out (wrote (goal.at.shape_of-out c).Start
    c.put_variant-a.new.out
    c.put_variant-a.result c.put.ensures)).1.0

pub returns : goal.returns
returns c =
    (after_text (goal.at.returns c).Start c.put_variant-a.result
    c.put_variant-a.new.out
    c.put_variant-a.ensures c.put.result
    c.put.new.out (wrote (goal.at.returns c).Start
    c.put_variant-a.new.out
    c.put_variant-a.result c.put.ensures)).1.1
