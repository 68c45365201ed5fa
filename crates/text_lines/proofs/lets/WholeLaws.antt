-- The whole let text, written in two parts with a newline between. Assumes nothing.
use mathlib.Core.Path.{◌≡◌, refl, subst}
use mathlib.Core.List.{List, [], ◌∷◌, ◌++◌, append_assoc}
use Prim.Native.Nat.{ℕ, ◌+◌, ◌-◌, ◌<◌, ◌≤◌}
use native.Mathlib.Omega.{arith}
use lib.ListN.{length, take, drop, set, length-append}
use borrow.Rule.Slice.PartMut.{put_mid}
use Rattle.decimal.specs.Written.{Wrote}
use Rattle.decimal.proofs.WrittenLaws.{
  Stands,
  stands-of-wrote,
  wrote-of-stands,
  stands-then,
  stands-byte,
  stands-length,
  stands-place,
  stands-fits,
}
use Rattle.text_pieces.specs.Pieces.{capped}
use Rattle.text_write.specs.Piece.{View, body}
use Rattle.text_lines.specs.Lines.{lines_to}
use Rattle.text_lines.specs.Whole.{whole_text}

module _ (v : View) (rs ws terms indents : List ℕ) (n m : ℕ) where
  pub whole_text-is :
      whole_text v rs ws terms indents n m ≡ lines_to v rs ws terms indents m ++ (10 ∷ body v 0 0 (n - 1))
  unfolding whole_text
  whole_text-is = refl

  pub whole_text-length :
      length (whole_text v rs ws terms indents n m)
      ≡ length (lines_to v rs ws terms indents m) + 1 + length (body v 0 0 (n - 1))
  whole_text-length =
      rw whole_text-is
      (omega (arith, length-append (lines_to v rs ws terms indents m) (10 ∷ body v 0 0 (n - 1))))

pub whole-measured :
    (a b x y r : ℕ) →
    x ≡ capped a →
    y ≡ capped (x + 1) →
    r ≡ capped (y + capped b) →
    r ≡ capped (a + 1 + b)
whole-measured a b x y r e f g = next (a + 1) b y r (first a x y e f) g
  where
    first : (a x y : ℕ) → x ≡ capped a → y ≡ capped (x + 1) → y ≡ capped (a + 1)
    first a x y e f = omega arith

    next : (c b y r : ℕ) → y ≡ capped c → r ≡ capped (y + capped b) → r ≡ capped (c + b)
    next c b y r e f = omega arith

-- a text stands, a byte after it, and then a callee writes in the tail
module _
    (o₀ a d : List ℕ)
    (x : ℕ)
    (room : length a + 1 + length d ≤ length o₀)
    (o₁ : List ℕ)
    (p : ℕ)
    (w : Wrote a p o₀ o₁)
  where
    s₁ : Stands o₀ a o₁ p
    s₁ = stands-of-wrote o₀ a o₁ p w

    pub byte-place : p < length o₁
    byte-place = omega (arith, s₁.long, stands-length o₀ a o₁ p s₁ (omega arith))

    s₂ : Stands o₀ (a ++ (x ∷ [])) (set o₁ p x) (p + 1)
    s₂ = stands-byte o₀ a o₁ p s₁ x (omega arith)

    long : length (a ++ (x ∷ [])) ≡ length a + 1
    long = length-append a (x ∷ [])

    pub tail-place : p + 1 ≤ length (set o₁ p x)
    tail-place = stands-place o₀ (a ++ (x ∷ [])) (set o₁ p x) (p + 1) s₂ (omega (arith, long))

    pub tail-fits : length d ≤ length (take (length (set o₁ p x) - (p + 1)) (drop (p + 1) (set o₁ p x)))
    tail-fits = stands-fits o₀ (a ++ (x ∷ [])) (set o₁ p x) (p + 1) s₂ d (omega (arith, long))

    module _ (q : List ℕ) (r : ℕ)
        (w₂ : Wrote d r (take (length (set o₁ p x) - (p + 1)) (drop (p + 1) (set o₁ p x))) q) where
      s₃ : Stands o₀ ((a ++ (x ∷ [])) ++ d) (put_mid (p + 1) (length (set o₁ p x) - (p + 1)) (set o₁ p x) q) (p + 1
          + r)
      s₃ = stands-then o₀ (a ++ (x ∷ [])) (set o₁ p x) (p + 1) s₂ d q r w₂

      pub end-length : length (put_mid (p + 1) (length (set o₁ p x) - (p + 1)) (set o₁ p x) q) ≡ length o₀
      end-length =
          stands-length o₀ ((a ++ (x ∷ [])) ++ d) _ (p + 1 + r) s₃
          (omega (arith, length-append (a ++ (x ∷ [])) d, long))

      pub end-wrote :
          Wrote (a ++ (x ∷ d)) (p + 1 + r) o₀ (put_mid (p + 1) (length (set o₁ p x) - (p + 1)) (set o₁ p x) q)
      end-wrote =
          subst
          (λ (y : List ℕ). Wrote y (p + 1 + r) o₀ (put_mid (p + 1) (length (set o₁ p x) - (p + 1)) (set o₁ p x) q))
          (append_assoc a (x ∷ []) d)
          (wrote-of-stands o₀ ((a ++ (x ∷ [])) ++ d) _ (p + 1 + r) s₃)
