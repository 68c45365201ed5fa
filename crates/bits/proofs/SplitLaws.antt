-- A run of bits cut in two, and what a run is of the whole bytes that it lies in. Assumes nothing.
use Prim.Native.Nat.{ℕ, zero, suc, ◌+◌, ◌-◌, ◌*◌, ◌/◌, ◌%◌, ◌^◌, ◌<◌, ◌≤◌, min}
use mathlib.Core.List.{List}
use mathlib.Core.Path.{◌≡◌, sym, ap, ◌∙◌}
use native.Mathlib.Nat.{pow-suc, mul_assoc, lt_of_lt_of_le}
use native.Mathlib.Omega.{arith}
use lib.Pow.{pow_mono, high, low}
use lib.ListN.{length, get_or, take, drop}
use Rattle.std.proofs.lemmas.List.{length-take, length-drop, get_or-take, get_or-drop}
use Rattle.bits.specs.Bits.{number}
use Rattle.bits.proofs.BitsLaws.{number-zero, number-suc, number_lt, number-within}

regroup : (a p q r : ℕ) → (a * p + q) * 2 + r ≡ a * (p * 2) + (q * 2 + r)
regroup a p q r = rw (← mul_assoc a p 2) (omega arith)

-- The first a bits, then b more.
pub number-split : (s : List ℕ) (k a b : ℕ) → k + (a + b) ≤ 8 * length s
    → number s k (a + b) ≡ number s k a * 2 ^ b + number s (k + a) b
number-split s k a zero h =
    let e : a + 0 ≡ a = omega arith in
    rw (e, number-zero s (k + a)) (omega arith)
number-split s k a (suc b) h =
    let e : a + suc b ≡ suc (a + b) = omega arith in
    let d : k + (a + b) ≡ k + a + b = omega arith in
    rw (
      e,
      number-suc s k (a + b) (omega arith),
      d,
      number-split s k a b (omega arith),
      number-suc s (k + a) b (omega arith),
      pow-suc 2 b,
    )
    (regroup (number s k a) (2 ^ b) _ _)

-- Of a + b bits the first a are what is left by a shift.
pub number-high : (s : List ℕ) (k a b : ℕ) → k + (a + b) ≤ 8 * length s → number s k (a + b) / 2 ^ b ≡ number s k a
number-high s k a b h =
    rw (number-split s k a b h) (high (number s k a) b (number_lt s (k + a) b (omega arith)))

-- And the last b what is left by a remainder.
pub number-low : (s : List ℕ) (k a b : ℕ) → k + (a + b) ≤ 8 * length s → number s k (a + b) % 2 ^ b ≡ number s (k + a) b
number-low s k a b h =
    rw (number-split s k a b h) (low (number s k a) b (number_lt s (k + a) b (omega arith)))

-- One whole byte more.
pub number-byte : (s : List ℕ) (k i : ℕ) → k + (i + 8) ≤ 8 * length s → (k + i) % 8 ≡ 0
    → get_or s ((k + i) / 8) 0 < 256
    → number s k i * 256 + get_or s ((k + i) / 8) 0 ≡ number s k (i + 8)
number-byte s k i h e l =
    let d : 8 - ((k + i) % 8 + 8) ≡ 0 = omega arith in
    let v : get_or s ((k + i) / 8) 0 / 1 % 256 ≡ get_or s ((k + i) / 8) 0 = omega arith in
    rw (number-split s k i 8 (omega arith), number-within s (k + i) 8 (omega arith) (omega arith), d, v)

-- Two bytes as one number.
pub number-pair : (s : List ℕ) (j : ℕ) → j + 1 < length s → get_or s j 0 < 256 → get_or s (j + 1) 0 < 256
    → get_or s j 0 * 256 + get_or s (j + 1) 0 ≡ number s (8 * j) 16
number-pair s j h a b =
    let e : 8 * j / 8 ≡ j = omega arith in
    let d : (8 * j + 8) / 8 ≡ j + 1 = omega arith in
    let f : 8 * j + 0 ≡ 8 * j = omega arith in
    let one = rw (f, e, number-zero s (8 * j)) at
    (number-byte s (8 * j) 0 (omega arith) (omega arith) (rw (f, e) a)) in
    let z : 0 * 256 + get_or s j 0 ≡ get_or s j 0 = omega arith in
    let first : number s (8 * j) 8 ≡ get_or s j 0 = sym one ∙ z in
    rw (first, d) at (number-byte s (8 * j) 8 (omega arith) (omega arith) (rw d b))

-- At most nine bits, out of the two bytes that they lie in.
pub number-few : (s : List ℕ) (k w : ℕ) → k / 8 + 1 < length s → w ≤ 9
    → get_or s (k / 8) 0 < 256 → get_or s (k / 8 + 1) 0 < 256
    → (get_or s (k / 8) 0 * 256 + get_or s (k / 8 + 1) 0) / 2 ^ (16 - (k % 8 + w)) % 2 ^ w ≡ number s k w
number-few s k w h l a b =
    let m : ℕ = 16 - (k % 8 + w) in
    let e : 16 ≡ k % 8 + w + m = omega arith in
    let d : 8 * (k / 8) + k % 8 ≡ k = omega arith in
    ap (λ (n : ℕ). n / 2 ^ m % 2 ^ w) (number-pair s (k / 8) h a b ∙ ap (number s (8 * (k / 8))) e)
    ∙ ap (λ (n : ℕ). n % 2 ^ w) (number-high s (8 * (k / 8)) (k % 8 + w) m (omega arith))
    ∙ number-low s (8 * (k / 8)) (k % 8) w (omega arith) ∙ ap (λ (n : ℕ). number s n w) d

-- Bits that are followed by n more, at most 64 in all, stay below 2 ^ 64 while they are added.
pub number-split-lt : (s : List ℕ) (k i n : ℕ) → k + (i + n) ≤ 8 * length s → i + n ≤ 64
    → number s k i * 2 ^ n + number s (k + i) n < 2 ^ 64
number-split-lt s k i n h m =
    rw (← number-split s k i n h) (lt_of_lt_of_le (number_lt s k (i + n) h) (pow_mono m))

-- The whole bytes of w bits from position k, of which the first h are those up to the next byte.
module _ (s : List ℕ) (k w h : ℕ) (l : k + w ≤ 8 * length s) (e : h ≡ min w ((8 - k % 8) % 8)) where
  abbrev pub whole_bytes : List ℕ
  whole_bytes = take ((k + h) / 8 + (w - h) / 8 - (k + h) / 8) (drop ((k + h) / 8) s)

  pub bytes-length : length whole_bytes ≡ (w - h) / 8
  bytes-length = simp (length-take, length-drop) (omega arith)

  -- After b of them.
  module _ {b v : ℕ} (i : v ≡ number s k (h + 8 * b)) where
    pub bytes-all : b ≤ length whole_bytes → length whole_bytes ≤ b → v ≡ number s k (h + 8 * ((w - h) / 8))
    bytes-all p q =
        let e : b ≡ (w - h) / 8 = omega (arith, bytes-length) in
        rw (← e) i

    module _ (o : b < length whole_bytes) where
      left : b < (w - h) / 8
      left = omega (arith, bytes-length)

      in-file : k + (h + 8 * b + 8) ≤ 8 * length s
      in-file = omega (arith, left)

      pub bytes-room : w ≤ 64 → v * 256 + 255 < 2 ^ 64
      bytes-room m = rw i (omega (arith, left, number-split-lt s k (h + 8 * b) 8 in-file (omega (arith, left))))

      module _ {x : ℕ} (a : x ≡ get_or whole_bytes b 0) (small : (j : ℕ) → get_or s j 0 < 256) where
        here : x ≡ get_or s ((k + h) / 8 + b) 0
        here = a ∙ get_or-take _ (drop ((k + h) / 8) s) b 0 (omega (arith, left)) ∙ get_or-drop ((k + h) / 8) s b 0

        pub byte-small : x < 256
        byte-small = rw here (small _)

        pub bytes-more : v * 256 + x ≡ number s k (h + 8 * (b + 1))
        bytes-more =
            let z : (k + (h + 8 * b)) % 8 ≡ 0 = omega (arith, left) in
            let j : (k + (h + 8 * b)) / 8 ≡ (k + h) / 8 + b = omega (arith, left) in
            let n : h + 8 * b + 8 ≡ h + 8 * (b + 1) = omega arith in
            rw (i, here) (rw (j, n) at (number-byte s k (h + 8 * b) in-file z (small _)))
