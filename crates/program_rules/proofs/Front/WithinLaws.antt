-- Readings that end by a position and are not Short, and how they join. Assumes nothing.
use Prim.Native.Nat.{ℕ, zero, suc, ◌+◌, ◌*◌, ◌^◌, ◌≤◌, ◌<◌}
use mathlib.Core.Bool.{Bool, true, false}
use mathlib.Core.List.{List, [], ◌∷◌, ◌++◌}
use mathlib.Core.Path.{◌≡◌, refl}
use native.Mathlib.Nat.{suc-mul}
use native.Mathlib.Omega.{arith}
use lib.ListN.{length}
use Rattle.refusal.specs.Numbers.{refusal_no}
use Rattle.refusal.specs.declared.Refusal.{Refusal}
use Rattle.refusal.specs.declared.Refusal.TheVariants.{Short}
use Rattle.bits.specs.Bits.{number}
use Rattle.bits.specs.Got.{Got, got, refused, then, must, pick, many}
use Rattle.bits.specs.Field.{field, holds}
use Rattle.bits.proofs.BitsLaws.{number_lt}
use Rattle.bits.proofs.FieldLaws.{holds-of-le, field-of-holds}

-- What was read ends at position `end` or before it; and a fault is not Short, whose number is 1.
pub data Within {A : Type 0} (end : ℕ) : Got A → Type 0 where
  within-got : {a : A} {k : ℕ} → k ≤ end → Within end (got a k)
  within-refused : {r : Refusal} → 1 < refusal_no r → Within end (refused r)

module _ {A : Type 0} {end : ℕ} where
  pub within-not-short : Within {A = A} end (refused Short) → ⊥
  within-not-short (within-refused l) = omega arith

  pub within-mono : {m : ℕ} {g : Got A} → m ≤ end → Within m g → Within end g
  within-mono h (within-got {k = k} l) = within-got {k = k} (omega arith)
  within-mono h (within-refused l) = within-refused l

  pub within-then : {B : Type 0} {m : ℕ} {g : Got B} {f : B → ℕ → Got A} → Within m g
      → ((b : B) (k : ℕ) → g ≡ got b k → k ≤ m → Within end (f b k))
      → Within end (then g f)
  unfolding then
  within-then (within-got l) j = j _ _ refl l
  within-then (within-refused l) j = within-refused l

  pub within-must : (b : Bool) (r : Refusal) {g : Got A} → 1 < refusal_no r → (b ≡ true → Within end g)
      → Within end (must b r g)
  unfolding must
  within-must true r l j = j refl
  within-must false r l j = within-refused l

  pub within-pick : (b : Bool) {g h : Got A} → Within end g → Within end h → Within end (pick b g h)
  unfolding pick
  within-pick true p q = p
  within-pick false p q = q

  -- A test that the input has the bits, where it has them.
  pub within-holds : (s : List ℕ) (k w : ℕ) (r : Refusal) {g : Got A} → k + w ≤ 8 * length s → Within end g
      → Within end (must (holds s k w) r g)
  unfolding must
  within-holds s k w r h j = rw (holds-of-le s k w h) j

  -- A field that the input has, and what is read after it.
  pub within-field : (s : List ℕ) (k w : ℕ) (f : ℕ → ℕ → Got A) → k + w ≤ 8 * length s
      → ((v : ℕ) → v < 2 ^ w → Within end (f v (k + w)))
      → Within end (then (field s k w) f)
  unfolding then
  within-field s k w f h j = rw (field-of-holds s k w (holds-of-le s k w h)) (j (number s k w) (number_lt s k w h))

-- n things, each of at most w bits, where there are so many bits.
pub within-many : {A : Type 0} {f : List A → ℕ → Got A} (w bits : ℕ)
    → ((xs : List A) (p : ℕ) → p + w ≤ bits → Within (p + w) (f xs p))
    → (n at : ℕ) (xs : List A) → at + n * w ≤ bits
    → Within (at + n * w) (many f n at xs)
unfolding many
within-many w bits each zero at xs h = within-got {k = at} (omega arith)
within-many w bits each (suc n) at xs h =
    let e : suc n * w ≡ n * w + w = suc-mul n w in
    within-then (each xs at (omega arith)) (λ x p _ l.
    within-mono (omega arith) (within-many w bits each n p (xs ++ (x ∷ [])) (omega arith)))
