-- Laws of the reading of a name's bytes. Assumes nothing.
use Prim.Native.Nat.{ℕ, zero, suc, ◌+◌, ◌*◌, ◌≤◌, ◌<◌}
use mathlib.Core.Bool.{true, false}
use mathlib.Core.List.{List, [], ◌∷◌, ◌++◌}
use mathlib.Core.Path.{◌≡◌, ap}
use native.Mathlib.Omega.{arith}
use native.Mathlib.Numerals.{add-one}
use lib.ListN.{length, take, set}
use lib.Seq.{take-suc-set}
use borrow.Author.Tests.{le-leb, lt-leb}
use Rattle.refusal.specs.declared.Refusal.{Refusal}
use Rattle.refusal.specs.declared.Refusal.TheVariants.{Short, BadName}
use Rattle.name.specs.Name.{all_allowed}
use Rattle.bits.specs.Bits.{number}
use Rattle.bits.specs.Got.{got, refused, then, must}
use Rattle.bits.specs.Field.{field, holds}
use Rattle.file_rules.specs.Functions.{bytes_at, name_at}

pub bytes_at-suc : (s : List ℕ) (k n : ℕ) → bytes_at s k (suc n) ≡ bytes_at s k n ++ (number s (k + 8 * n) 8 ∷ [])
unfolding bytes_at
bytes_at-suc s k zero =
    let e : k + 8 * 0 ≡ k = omega arith in
    rw e
bytes_at-suc s k (suc n) =
    let e : k + 8 * suc n ≡ k + 8 + 8 * n = omega arith in
    rw e (ap (λ (l : List ℕ). number s k 8 ∷ l) (bytes_at-suc s (k + 8) n))

-- One byte more in the buffer.
pub bytes-more : (s : List ℕ) (k j : ℕ) (buffer : List ℕ) {b : ℕ} → j < length buffer → take j buffer ≡ bytes_at s k j
    → b ≡ number s (k + 8 * j) 8 → take (j + 1) (set buffer j b) ≡ bytes_at s k (j + 1)
bytes-more s k j buffer h e d = rw (add-one, take-suc-set buffer j _ h, e, d, bytes_at-suc)

module _ (s : List ℕ) (at : ℕ) where
  pub name_refused : {r : Refusal} → field s at 5 ≡ refused r → name_at s at ≡ refused r
  unfolding name_at then
  name_refused e = rw e

  module _ {n p : ℕ} (e : field s at 5 ≡ got n p) where
    pub name-empty : n ≡ 0 → name_at s at ≡ refused BadName
    unfolding name_at then must
    name-empty z =
        let l : n < 1 = omega arith in
        rw (e, lt-leb _ _ l)

    module _ (o : n ≡ 0 → ⊥) where
      some : 1 ≤ n
      some = omega arith

      pub name-cut : holds s p (8 * n) ≡ false → name_at s at ≡ refused Short
      unfolding name_at then must
      name-cut h = rw (e, le-leb _ _ some, h)

      module _ (h : holds s p (8 * n) ≡ true) where
        pub name-bad : all_allowed (bytes_at s p n) ≡ false → name_at s at ≡ refused BadName
        unfolding name_at then must
        name-bad b = rw (e, le-leb _ _ some, h, b)

        pub name-good : all_allowed (bytes_at s p n) ≡ true → name_at s at ≡ got (bytes_at s p n) (p + 8 * n)
        unfolding name_at then must
        name-good b = rw (e, le-leb _ _ some, h, b)
