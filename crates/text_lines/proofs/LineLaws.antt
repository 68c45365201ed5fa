-- The laws of the lines of bindings. Assumes nothing.
use mathlib.Core.Path.{◌≡◌, refl, sym, ap, subst}
use mathlib.Core.List.{List, [], ◌∷◌, ◌++◌, append_assoc}
use Prim.Native.Nat.{ℕ, zero, suc, ◌+◌, ◌-◌, ◌<◌, ◌≤◌}
use native.Mathlib.Omega.{arith}
use native.Mathlib.Numerals.{add-one}
use lib.ListN.{length, take, drop, set, get_or, length-append}
use lib.Dec.{ltb}
use borrow.Author.Tests.{eq-eqb, ne_eqb}
use borrow.Rule.Slice.PartMut.{put_mid}
use Rattle.decimal.specs.Written.{Wrote}
use Rattle.decimal.proofs.WrittenLaws.{
  Stands,
  stands-none,
  stands-then,
  stands-byte,
  stands-place,
  stands-fits,
  wrote-of-stands,
}
use Rattle.text_pieces.specs.Pieces.{capped, gap_text}
use Rattle.term_rules.specs.Lent.{arity_at}
use Rattle.text_write.specs.Piece.{View, body}
use Rattle.text_lines.specs.Lines.{body_width, open_text, line_text, lines_to}

pub body_width-leaf : (rs ws : List ℕ) (i t : ℕ) → arity_at rs t ≡ 0 → body_width rs ws i t ≡ 0
unfolding body_width
body_width-leaf rs ws i t e = rw (eq-eqb (arity_at rs t) 0 e, body_width)

pub body_width-wide : (rs ws : List ℕ) (i t : ℕ) → (arity_at rs t ≡ 0 → ⊥) → body_width rs ws i t ≡ i + get_or ws t 0
unfolding body_width
body_width-wide rs ws i t e = rw (ne_eqb (arity_at rs t) 0 e, body_width)

-- ---- a line, piece by piece
module _ (v : View) (rs ws : List ℕ) (i t k : ℕ) where
  abbrev gap : List ℕ
  gap = gap_text (ltb 80 (body_width rs ws i t)) 2

  pub line_text-is :
      line_text v rs ws i t k
      ≡ ((open_text (v.name k) ++ gap_text (ltb 80 (body_width rs ws i t)) 2) ++ body v 2 i t) ++ (41 ∷ 10 ∷ [])
  unfolding line_text
  line_text-is = refl

  pub line_text-length :
      length (line_text v rs ws i t k)
      ≡ 5 + length (v.name k) + length (gap_text (ltb 80 (body_width rs ws i t)) 2) + length (body v 2 i t) + 2
  line_text-length =
      rw line_text-is
      (omega (
        arith,
        length-append
            ((open_text (v.name k) ++ gap_text (ltb 80 (body_width rs ws i t)) 2) ++ body v 2 i t) (41 ∷ 10 ∷ []),
        length-append (open_text (v.name k) ++ gap_text (ltb 80 (body_width rs ws i t)) 2) (body v 2 i t),
        length-append (open_text (v.name k)) (gap_text (ltb 80 (body_width rs ws i t)) 2),
        length-append (40 ∷ 108 ∷ 101 ∷ 116 ∷ 32 ∷ []) (v.name k),
      ))

-- its length, summed step by step
pub line-measured :
    (a b c r₁ r₂ r₃ r₄ : ℕ) →
    r₁ ≡ capped (5 + capped a) →
    r₂ ≡ capped (r₁ + b) →
    r₃ ≡ capped (r₂ + capped c) →
    r₄ ≡ capped (r₃ + 2) →
    r₄ ≡ capped (5 + a + b + c + 2)
line-measured a b c r₁ r₂ r₃ r₄ e₁ e₂ e₃ e₄ =
    last (next (first a r₁ e₁) e₂) e₃ e₄
  where
    first : (a r₁ : ℕ) → r₁ ≡ capped (5 + capped a) → r₁ ≡ capped (5 + a)
    first a r₁ e = omega arith

    next : r₁ ≡ capped (5 + a) → r₂ ≡ capped (r₁ + b) → r₂ ≡ capped (5 + a + b)
    next e f = sum (5 + a) b r₁ r₂ e f
      where
        sum : (x y r q : ℕ) → r ≡ capped x → q ≡ capped (r + y) → q ≡ capped (x + y)
        sum x y r q e f = omega arith

    last : r₂ ≡ capped (5 + a + b) → r₃ ≡ capped (r₂ + capped c) → r₄ ≡ capped (r₃ + 2)
        → r₄ ≡ capped (5 + a + b + c + 2)
    last e f g = end (5 + a + b) c r₂ r₃ r₄ e f g
      where
        end : (x y r q z : ℕ) → r ≡ capped x → q ≡ capped (r + capped y) → z ≡ capped (q + 2) → z ≡ capped (x + y + 2)
        end x y r q z e f g = two (x + y) q z (one x y r q e f) g
          where
            one : (x y r q : ℕ) → r ≡ capped x → q ≡ capped (r + capped y) → q ≡ capped (x + y)
            one x y r q e f = omega arith

            two : (x q z : ℕ) → q ≡ capped x → z ≡ capped (q + 2) → z ≡ capped (x + 2)
            two x q z e f = omega arith

-- two bytes more
pub stands-two :
    (o₀ d o : List ℕ) (p a b : ℕ) →
    Stands o₀ d o p →
    length d + 2 ≤ length o₀ →
    Stands o₀ (d ++ (a ∷ b ∷ [])) (set (set o p a) (p + 1) b) (p + 2)
stands-two o₀ d o p a b v l =
    let s = stands-byte o₀ d o p v a (omega arith) in
    let r =
    stands-byte o₀ (d ++ (a ∷ [])) (set o p a) (p + 1) s b (omega (arith, length-append d (a ∷ []))) in
    let e : p + 1 + 1 ≡ p + 2 = omega arith in
    subst (λ (x : List ℕ). Stands o₀ x (set (set o p a) (p + 1) b) (p + 2)) (append_assoc d (a ∷ []) (b ∷ []))
    (subst (λ (x : ℕ). Stands o₀ ((d ++ (a ∷ [])) ++ (b ∷ [])) (set (set o p a) (p + 1) b) x) e r)

-- ---- the lines one after the other
module _ (v : View) (rs ws terms indents : List ℕ) where
  abbrev line_at : ℕ → List ℕ
  line_at k = line_text v rs ws (get_or indents k 0) (get_or terms k 0) k

  abbrev up_to : ℕ → List ℕ
  up_to k = lines_to v rs ws terms indents k

  pub lines_to-none : lines_to v rs ws terms indents 0 ≡ []
  unfolding lines_to
  lines_to-none = refl

  pub lines_to-more :
      (k : ℕ) →
      lines_to v rs ws terms indents (k + 1)
      ≡ lines_to v rs ws terms indents k ++ line_text v rs ws (get_or indents k 0) (get_or terms k 0) k
  unfolding lines_to
  lines_to-more k = rw add-one refl

  lines_to-grows : (d k : ℕ) → length (up_to k) ≤ length (up_to (k + d))
  lines_to-grows zero k = let e : k + 0 ≡ k = omega arith in rw e (omega arith)
  lines_to-grows (suc d) k =
      let e : k + suc d ≡ k + d + 1 = omega arith in
      rw e
      (omega
      (arith, lines_to-grows d k, ap length (lines_to-more (k + d)), length-append (up_to (k + d)) (line_at (k + d))))

  lines_to-room : (k m : ℕ) → k < m → length (up_to k) + length (line_at k) ≤ length (up_to m)
  lines_to-room k m l =
      let e : k + 1 + (m - (k + 1)) ≡ m = omega arith in
      let g = lines_to-grows (m - (k + 1)) (k + 1) in
      omega (arith, rw e at g, ap length (lines_to-more k), length-append (up_to k) (line_at k))

  -- measuring
  pub lines-measured :
      (k acc long r : ℕ) →
      acc ≡ capped (length (lines_to v rs ws terms indents k)) →
      long ≡ capped (length (line_text v rs ws (get_or indents k 0) (get_or terms k 0) k)) →
      r ≡ capped (acc + long) →
      r ≡ capped (length (lines_to v rs ws terms indents (k + 1)))
  lines-measured k acc long r a b c =
      omega (arith, ap length (lines_to-more k), length-append (up_to k) (line_at k))

  -- writing: k lines stand
  pub record Lining (m : ℕ) (o₀ o : List ℕ) (p k : ℕ) : Type 0 where
    pub at : k ≤ m
    pub text : Stands o₀ (lines_to v rs ws terms indents k) o p

  pub lining-none : (m : ℕ) (o : List ℕ) → Lining m o o 0 0
  lining-none m o = record {
    at = omega arith;
    text = subst (λ (d : List ℕ). Stands o d o 0) (sym lines_to-none) (stands-none o);
  }

  module _ (m : ℕ) (o₀ o : List ℕ) (p k : ℕ) (w : Lining m o₀ o p k)
      (room : length (lines_to v rs ws terms indents m) ≤ length o₀) where
    lining-short : length (up_to k) ≤ length o₀
    lining-short =
        let e : k + (m - k) ≡ m = omega (arith, w.at) in
        let g = lines_to-grows (m - k) k in omega (arith, rw e at g)

    pub lining-place : p ≤ length o
    lining-place = stands-place o₀ (up_to k) o p w.text lining-short

    module _ (l : k < m) where
      pub lining-fits :
          length (line_text v rs ws (get_or indents k 0) (get_or terms k 0) k) ≤ length (take (length o - p) (drop p
          o))
      lining-fits = stands-fits o₀ (up_to k) o p w.text (line_at k) (omega (arith, lines_to-room k m l))

      pub lining-again :
          (q : List ℕ) (r : ℕ) →
          Wrote (line_text v rs ws (get_or indents k 0) (get_or terms k 0) k) r (take (length o - p) (drop p o)) q →
          Lining m o₀ (put_mid p (length o - p) o q) (p + r) (k + 1)
      lining-again q r x = record {
        at = omega arith;
        text =
            subst (λ (d : List ℕ). Stands o₀ d (put_mid p (length o - p) o q) (p + r)) (sym (lines_to-more k))
            (stands-then o₀ (up_to k) o p w.text (line_at k) q r x);
      }

    pub lining-end : m ≤ k → Wrote (lines_to v rs ws terms indents m) p o₀ o
    lining-end l =
        let e : k ≡ m = omega (arith, w.at) in
        subst (λ (x : ℕ). Wrote (lines_to v rs ws terms indents x) p o₀ o) e
        (wrote-of-stands o₀ (up_to k) o p w.text)
