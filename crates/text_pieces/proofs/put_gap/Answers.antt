-- `text_pieces::put_gap` meets its contract: a space, or a newline and the spaces. Assumes nothing.
use Prim.Native.Nat.{ℕ, ◌+◌, ◌-◌, ◌<◌, ◌≤◌}
use mathlib.Core.Path.{◌≡◌, refl, ap, ◌∙◌}
use mathlib.Core.List.{List, [], ◌∷◌}
use lib.Dec.{ltb}
use lib.ListN.{length, set, replicate, length-replicate, length-take, length-drop, length-set}
use borrow.Rule.Slice.PartMut.{put_mid}
use Rattle.decimal.specs.Written.{Wrote}
use Rattle.decimal.proofs.WrittenLaws.{stands-first, wrote-of-stands}
use Rattle.text_rules.specs.LetText.{new_line}
use Rattle.text_pieces.specs.Pieces.{gap_text}
use Rattle.text_pieces.proofs.PieceLaws.{gap_text-narrow, gap_text-wide, new_line-length}
use native.Mathlib.Omega.{arith}
use Rattle.text_pieces.proofs.put_gap.Goals as goal

-- a wide text has room for the whole new line
room :
    (limit width n : ℕ) (o : List ℕ) →
    limit < width →
    length (gap_text (ltb limit width) n) ≤ length o →
    n < length o
room limit width n o l h = omega (arith, h, ap length (gap_text-wide limit width n l), new_line-length n)

-- a newline, and spaces after it
spaces :
    (n : ℕ) (o q : List ℕ) →
    n < length o →
    q ≡ replicate n 32 →
    Wrote (new_line n) (n + 1) o (put_mid 1 (n + 1 - 1) (set o 0 10) q)
unfolding new_line
spaces n [] q l e = absurd (omega arith)
spaces n (x ∷ o) q l e = record {
  long = omega (arith, length-replicate {A = ℕ} n 32);
  bytes = let d : n + 1 - 1 ≡ n = omega arith in rw (d, e, length-replicate) refl;
}

pub bounds-out-0 : goal.bounds-out-0
bounds-out-0 c =
    omega (arith, c.requires, ap length (gap_text-narrow c.args.limit c.args.width c.args.n (omega arith)))

pub returns-then-width-limit : goal.returns-then-width-limit
returns-then-width-limit c =
    let o = c.args.out.now in
    let e = gap_text-narrow c.args.limit c.args.width c.args.n c.if-width-limit.true in
    rw e (wrote-of-stands o (32 ∷ []) _ 1 (stands-first o 32 (omega (arith, ap length e))))

pub bounds-out-0-2 : goal.bounds-out-0-2
bounds-out-0-2 c = omega (
  arith,
  room c.args.limit c.args.width c.args.n c.args.out.now c.if-width-limit.false
      c.requires,
)

pub overflow_add-n : goal.overflow_add-n
overflow_add-n c = omega (
  arith,
  room c.args.limit c.args.width c.args.n c.args.out.now c.if-width-limit.false
      c.requires,
)

pub slice_bounds-fill-end : goal.slice_bounds-fill-end
slice_bounds-fill-end c =
    let l = room c.args.limit c.args.width c.args.n c.args.out.now c.if-width-limit.false c.requires in
    let h : c.args.n + 1 ≤ length (set c.args.out.now 0 10) = simp length-set (omega arith) in
    h

pub returns : goal.returns
returns c =
    let l = room c.args.limit c.args.width c.args.n c.args.out.now c.if-width-limit.false c.requires in
    rw (gap_text-wide c.args.limit c.args.width c.args.n c.if-width-limit.false)
    (spaces c.args.n c.args.out.now c.fill.new.self l
    (c.fill.ensures.after (λ y e. e)
    ∙ ap (λ (k : ℕ). replicate k 32) (simp (length-take, length-drop, length-set) (omega arith))))
