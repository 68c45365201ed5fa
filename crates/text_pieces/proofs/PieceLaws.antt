-- The laws of the pieces: names, gaps, copies. Assumes nothing.
use mathlib.Core.Path.{◌≡◌, refl, sym, subst, ◌∙◌}
use mathlib.Core.Bool.{Bool, true, false, ◌&&◌}
use mathlib.Core.List.{List, [], ◌∷◌, ◌++◌}
use Prim.Native.Nat.{ℕ, ◌+◌, ◌<◌, ◌≤◌}
use native.Mathlib.Omega.{arith}
use native.Mathlib.Numerals.{add-one}
use lib.ListN.{length, set, take, get_or, length-append, length-replicate}
use lib.Seq.{take-suc, take_all, length-take-le}
use lib.Dec.{eqb, ltb}
use borrow.Author.Tests.{lt-ltb, le-ltb}
use Rattle.decimal.specs.Decimal.{digits}
use Rattle.decimal.specs.Written.{Wrote}
use Rattle.decimal.proofs.WrittenLaws.{Stands, stands-none, stands-byte, stands-length, wrote-of-stands}
use Rattle.text_rules.specs.LetText.{count_text, new_line}
use Rattle.text_pieces.specs.Pieces.{name_text, gap_text}

pub count_text-bare : (b : Bool) (n : ℕ) → (b && eqb n 0) ≡ true → count_text b n ≡ []
unfolding count_text
count_text-bare b n e = rw (e, count_text)

pub count_text-digits : (b : Bool) (n : ℕ) → (b && eqb n 0) ≡ false → count_text b n ≡ digits n
unfolding count_text
count_text-digits b n e = rw (e, count_text)

pub name_text-is : (stem : List ℕ) (start : ℕ) (b : Bool) (k : ℕ)
    → name_text stem start b k ≡ stem ++ count_text b (start + k)
unfolding name_text
name_text-is stem start b k = refl

pub name_text-length :
    (stem : List ℕ) (start : ℕ) (b : Bool) (k : ℕ) →
    length (name_text stem start b k) ≡ length stem + length (count_text b (start + k))
name_text-length stem start b k = rw (name_text-is stem start b k) (length-append stem (count_text b (start + k)))

pub new_line-length : (n : ℕ) → length (new_line n) ≡ n + 1
unfolding new_line
new_line-length n = omega (arith, length-replicate {A = ℕ} n 32)

pub gap_text-narrow : (limit w n : ℕ) → w ≤ limit → gap_text (ltb limit w) n ≡ 32 ∷ []
unfolding gap_text
gap_text-narrow limit w n l = rw (le-ltb limit w l, gap_text)

pub gap_text-wide : (limit w n : ℕ) → limit < w → gap_text (ltb limit w) n ≡ new_line n
unfolding gap_text
gap_text-wide limit w n l = rw (lt-ltb limit w l, gap_text)

-- a copy: the first j bytes stand
pub record Copying (o₀ s o : List ℕ) (j : ℕ) : Type 0 where
  pub at : j ≤ length s
  pub text : Stands o₀ (take j s) o j

module _ (o₀ s : List ℕ) (room : length s ≤ length o₀) where
  pub copying-none : Copying o₀ s o₀ 0
  copying-none = record { at = omega arith; text = stands-none o₀ }

  module _ (o : List ℕ) (j : ℕ) (v : Copying o₀ s o j) where
    pub copying-length : length o ≡ length o₀
    copying-length =
        let n : length (take j s) ≡ j = length-take-le j s v.at in
        stands-length o₀ (take j s) o j v.text (omega (arith, v.at))

    pub copying-again : j < length s → Copying o₀ s (set o j (get_or s j 0)) (j + 1)
    copying-again l =
        let n : length (take j s) ≡ j = length-take-le j s v.at in
        let e : take j s ++ (get_or s j 0 ∷ []) ≡ take (j + 1) s = sym (take-suc s j 0 l) ∙ rw add-one in
        record {
          at = omega arith;
          text =
              subst (λ (d : List ℕ). Stands o₀ d (set o j (get_or s j 0)) (j + 1)) e
              (stands-byte o₀ (take j s) o j v.text (get_or s j 0) (omega arith));
        }

    pub copying-end : length s ≤ j → Wrote s j o₀ o
    copying-end l =
        wrote-of-stands o₀ s o j (subst (λ (d : List ℕ). Stands o₀ d o j) (take_all j s l) v.text)
