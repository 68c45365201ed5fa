-- Laws of the bits of a byte list and of the numbers that they make. Assumes nothing.
use Prim.Native.Nat.{ℕ, zero, suc, ◌+◌, ◌-◌, ◌*◌, ◌/◌, ◌%◌, ◌^◌, ◌<◌, ◌≤◌}
use mathlib.Core.List.{List, [], ◌∷◌, ◌++◌}
use mathlib.Core.Path.{◌≡◌, refl}
use native.Mathlib.Nat.{pow-suc, zero-div}
use native.Mathlib.Omega.{arith}
use lib.Pow.{mod-pow-add, shr-shr}
use lib.ListN.{length, get_or, drop, length-drop}
use lib.Seq.{take-suc, get_or-drop}
use Rattle.bits.specs.Bits.{bits_of, value, number}

-- The bit at position k.
abbrev pub bit_at : List ℕ → ℕ → ℕ
bit_at s k = get_or s (k / 8) 0 / 2 ^ (7 - k % 8) % 2

pub bit_at_lt : (s : List ℕ) (k : ℕ) → bit_at s k < 2
bit_at_lt s k = omega arith

pub bits_of-length : (s : List ℕ) → length (bits_of s) ≡ 8 * length s
unfolding bits_of
bits_of-length [] = refl
bits_of-length (b ∷ s) = omega (arith, bits_of-length s)

pub bits_of-get : (s : List ℕ) (k : ℕ) → get_or (bits_of s) k 0 ≡ bit_at s k
unfolding bits_of
bits_of-get [] k = rw zero-div
bits_of-get (b ∷ s) zero = refl
bits_of-get (b ∷ s) (suc zero) = refl
bits_of-get (b ∷ s) (suc (suc zero)) = refl
bits_of-get (b ∷ s) (suc (suc (suc zero))) = refl
bits_of-get (b ∷ s) (suc (suc (suc (suc zero)))) = refl
bits_of-get (b ∷ s) (suc (suc (suc (suc (suc zero))))) = refl
bits_of-get (b ∷ s) (suc (suc (suc (suc (suc (suc zero)))))) = refl
bits_of-get (b ∷ s) (suc (suc (suc (suc (suc (suc (suc zero))))))) = omega arith
bits_of-get (b ∷ s) (suc (suc (suc (suc (suc (suc (suc (suc j)))))))) =
    let e : suc (suc (suc (suc (suc (suc (suc (suc j))))))) / 8 ≡ suc (j / 8) = omega arith in
    let f : suc (suc (suc (suc (suc (suc (suc (suc j))))))) % 8 ≡ j % 8 = omega arith in
    rw (e, f) (bits_of-get s j)

pub value-snoc : (v : ℕ) (xs : List ℕ) (b : ℕ) → value v (xs ++ (b ∷ [])) ≡ value v xs * 2 + b
unfolding value
value-snoc v [] b = refl
value-snoc v (x ∷ xs) b = value-snoc (v * 2 + x) xs b

pub number-zero : (s : List ℕ) (k : ℕ) → number s k 0 ≡ 0
unfolding number value
number-zero s k = refl

-- One bit more.
pub number-suc : (s : List ℕ) (k w : ℕ) → k + suc w ≤ 8 * length s
    → number s k (suc w) ≡ number s k w * 2 + bit_at s (k + w)
unfolding number
number-suc s k w h =
    let l : w < length (drop k (bits_of s)) = rw (length-drop, bits_of-length) (omega arith) in
    rw (take-suc (drop k (bits_of s)) w 0 l, value-snoc, get_or-drop, bits_of-get)

-- A number of w bits is below 2 ^ w.
pub number_lt : (s : List ℕ) (k w : ℕ) → k + w ≤ 8 * length s → number s k w < 2 ^ w
number_lt s k zero h = omega (arith, number-zero s k)
number_lt s k (suc w) h =
    omega (arith, number_lt s k w (omega arith), number-suc s k w h, bit_at_lt s (k + w), pow-suc 2 w)

-- The n bits of a byte after its first j, with one bit more.
part-suc : (b j n : ℕ) → suc (j + n) ≤ 8
    → b / 2 ^ (8 - (j + suc n)) % 2 ^ suc n ≡ b / 2 ^ (8 - (j + n)) % 2 ^ n * 2 + b / 2 ^ (7 - (j + n)) % 2
part-suc b j n h =
    let e : 8 - (j + suc n) ≡ 7 - (j + n) = omega arith in
    let f : 8 - (j + n) ≡ (7 - (j + n)) + 1 = omega arith in
    let g : suc n ≡ n + 1 = omega arith in
    rw (e, f, g, mod-pow-add (b / 2 ^ (7 - (j + n))) n 1, shr-shr b (7 - (j + n)) 1)

-- The bits that lie in one byte.
pub number-within : (s : List ℕ) (k n : ℕ) → k + n ≤ 8 * length s → k % 8 + n ≤ 8
    → number s k n ≡ get_or s (k / 8) 0 / 2 ^ (8 - (k % 8 + n)) % 2 ^ n
number-within s k zero h l =
    let z : get_or s (k / 8) 0 / 2 ^ (8 - (k % 8 + 0)) % 1 ≡ 0 = omega arith in
    rw z (number-zero s k)
number-within s k (suc n) h l =
    let d : (k + n) / 8 ≡ k / 8 = omega arith in
    let m : (k + n) % 8 ≡ k % 8 + n = omega arith in
    rw (
      number-suc s k n (omega arith),
      d,
      m,
      number-within s k n (omega arith) (omega arith),
      part-suc (get_or s (k / 8) 0) (k % 8) n (omega arith),
    )
