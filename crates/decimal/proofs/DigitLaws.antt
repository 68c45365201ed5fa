-- The laws of decimal digits. Assumes nothing.
use mathlib.Core.Path.{◌≡◌, sym, ◌∙◌}
use mathlib.Core.List.{[], ◌∷◌, ◌++◌}
use Prim.{Dec, yes, no}
use Prim.Native.Nat.{ℕ, zero, suc, ◌+◌, ◌/◌, ◌%◌, ◌<◌, ◌≤◌}
use native.Mathlib.Decide.{dec_lt}
use native.Mathlib.Omega.{arith}
use lib.ListN.{length, length-append}
use borrow.Author.Tests.{lt-ltb, le-ltb}
use Rattle.decimal.specs.Decimal.{digits_in, digits}

digits_in-one : (f x : ℕ) → x < 10 → digits_in (suc f) x ≡ (x + 48) ∷ []
unfolding digits_in
digits_in-one f x l = rw (lt-ltb _ _ l, digits_in)

digits_in-more : (f x : ℕ) → 10 ≤ x → digits_in (suc f) x ≡ digits_in f (x / 10) ++ ((x % 10 + 48) ∷ [])
unfolding digits_in
digits_in-more f x l = rw (le-ltb _ _ l, digits_in)

-- any bound above x gives the same digits
digits_in-enough : (f g x : ℕ) → x < f → x < g → digits_in f x ≡ digits_in g x
digits_in-enough zero g x p q = let z : ⊥ = omega arith in absurd z
digits_in-enough (suc f) zero x p q = let z : ⊥ = omega arith in absurd z
digits_in-enough (suc f) (suc g) x p q = by (digits_in-enough f) (dec_lt x 10)
  where
    by :
        ((g x : ℕ) → x < f → x < g → digits_in f x ≡ digits_in g x) →
        Dec (x < 10) →
        digits_in (suc f) x ≡ digits_in (suc g) x
    by ih (yes l) = digits_in-one f x l ∙ sym (digits_in-one g x l)
    by ih (no n) =
        let l : 10 ≤ x = omega arith in
        digits_in-more f x l ∙ rw (ih g (x / 10) (omega arith) (omega arith)) (sym (digits_in-more g x l))

pub digits-one : (x : ℕ) → x < 10 → digits x ≡ (x + 48) ∷ []
unfolding digits
digits-one x l = digits_in-one x x l

pub digits_more : (x : ℕ) → 10 ≤ x → digits x ≡ digits (x / 10) ++ ((x % 10 + 48) ∷ [])
unfolding digits
digits_more x l =
    digits_in-more x x l ∙ rw (digits_in-enough x (suc (x / 10)) (x / 10) (omega arith) (omega arith))

pub digits-length-one : (x : ℕ) → x < 10 → length (digits x) ≡ 1
digits-length-one x l = rw (digits-one x l)

pub digits-length-more : (x : ℕ) → 10 ≤ x → length (digits x) ≡ length (digits (x / 10)) + 1
digits-length-more x l = rw (digits_more x l, length-append)

-- few enough that their number fits where x does
digits-length-in : (f x : ℕ) → x < f → length (digits x) ≤ x + 1
digits-length-in zero x p = let z : ⊥ = omega arith in absurd z
digits-length-in (suc f) x p = by (digits-length-in f) (dec_lt x 10)
  where
    by : ((y : ℕ) → y < f → length (digits y) ≤ y + 1) → Dec (x < 10) → length (digits x) ≤ x + 1
    by ih (yes l) = omega (arith, digits-length-one x l)
    by ih (no n) = omega (arith, digits-length-more x (omega arith), ih (x / 10) (omega arith))

pub digits-length-low : (x : ℕ) → length (digits x) ≤ x + 1
digits-length-low x = digits-length-in (suc x) x (omega arith)
