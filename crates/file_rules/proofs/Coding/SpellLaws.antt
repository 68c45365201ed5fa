-- What was read spells what it holds: between two positions the bits of the file are its code. Assumes nothing.
use Prim.Native.Nat.{ℕ, zero, suc, ◌+◌, ◌*◌, ◌/◌, ◌%◌, ◌^◌, ◌≤◌, ◌<◌}
use mathlib.Core.List.{List, [], ◌∷◌, ◌++◌}
use mathlib.Core.Path.{◌≡◌, refl, sym, ap, ◌∙◌}
use native.Mathlib.Nat.{pow-suc, add-mul, mul_assoc, mul_comm, mul-le-mul_right}
use native.Mathlib.Omega.{arith}
use lib.Pow.{high}
use lib.ListN.{length, take, drop, length-append, length-drop}
use lib.Seq.{take-add, drop-drop, length-take-le}
use Rattle.bits.specs.Bits.{bits_of, value, number}
use Rattle.bits.specs.Got.{got}
use Rattle.bits.specs.Field.{field}
use Rattle.bits.proofs.BitsLaws.{bits_of-length}
use Rattle.bits.proofs.FieldLaws.{field-read}
use Rattle.file_rules.specs.Every.{Every, every-nil, every-cons}
use Rattle.file_rules.specs.Code.{code}

-- The bits of s from position a to position b are xs.
pub record Spells (s : List ℕ) (a b : ℕ) (xs : List ℕ) : Type 0 where
  pub size : length xs + a ≡ b
  pub here : b ≤ length (bits_of s)
  pub are : take (length xs) (drop a (bits_of s)) ≡ xs

module _ {s : List ℕ} where
  pub spells-nil : {a : ℕ} → a ≤ length (bits_of s) → Spells s a a []
  spells-nil h = record { size = omega arith; here = h; are = refl }

  pub spells-append : {a b c : ℕ} {xs ys : List ℕ} → Spells s a b xs → Spells s b c ys → Spells s a c (xs ++ ys)
  spells-append {a} {b} {c} {xs} {ys} p q =
      let e : length (xs ++ ys) ≡ length xs + length ys = length-append xs ys in
      let d : a + length xs ≡ b = omega (arith, p.size) in
      record {
        size = omega (arith, p.size, q.size);
        here = q.here;
        are =
            rw (e, take-add (length xs) (length ys) (drop a (bits_of s)), p.are, drop-drop (length xs) a (bits_of s), d)
            (ap (λ (l : List ℕ). xs ++ l) q.are);
      }

-- A bit.
abbrev pub Bit : ℕ → Type 0
Bit b = b < 2

bit-of : (n : ℕ) → Bit (n % 2)
bit-of n = omega arith

pub bits_are : (s : List ℕ) → Every Bit (bits_of s)
unfolding bits_of
bits_are [] = every-nil
bits_are (b ∷ s) =
    every-cons (bit-of (b / 128))
    (every-cons (bit-of (b / 64))
    (every-cons (bit-of (b / 32))
    (every-cons (bit-of (b / 16))
    (every-cons (bit-of (b / 8))
    (every-cons (bit-of (b / 4)) (every-cons (bit-of (b / 2)) (every-cons (bit-of b) (bits_are s))))))))

pub every_take : {A : Type 0} {P : A → Type 0} {xs : List A} (n : ℕ) → Every P xs → Every P (take n xs)
every_take zero h = every-nil
every_take (suc n) every-nil = every-nil
every_take (suc n) (every-cons p h) = every-cons p (every_take n h)

pub every_drop : {A : Type 0} {P : A → Type 0} {xs : List A} (n : ℕ) → Every P xs → Every P (drop n xs)
every_drop zero h = h
every_drop (suc n) every-nil = every-nil
every_drop (suc n) (every-cons p h) = every_drop n h

pub code-length : (w v : ℕ) → length (code w v) ≡ w
unfolding code
code-length zero v = refl
code-length (suc w) v = ap suc (code-length w v)

pub shift : (v b p x : ℕ) → (v * 2 + b) * p + x ≡ v * (p * 2) + (b * p + x)
shift v b p x =
    let e : (v * 2 + b) * p ≡ v * 2 * p + b * p = add-mul (v * 2) b p in
    let f : v * 2 * p ≡ v * (p * 2) = mul_assoc v 2 p ∙ ap (λ (m : ℕ). v * m) (mul_comm 2 p) in
    omega arith

-- The number of bits after v.
value-split : (v : ℕ) (bs : List ℕ) → value v bs ≡ v * 2 ^ length bs + value 0 bs
unfolding value
value-split v [] = omega arith
value-split v (b ∷ bs) =
    let h : value (v * 2 + b) bs ≡ (v * 2 + b) * 2 ^ length bs + value 0 bs = value-split (v * 2 + b) bs in
    let k : value (0 * 2 + b) bs ≡ (0 * 2 + b) * 2 ^ length bs + value 0 bs = value-split (0 * 2 + b) bs in
    let z : 0 * 2 + b ≡ b = omega arith in
    rw (h, k, z, pow-suc 2 (length bs)) (shift v b (2 ^ length bs) (value 0 bs))

pub value-lt : {bs : List ℕ} → Every Bit bs → value 0 bs < 2 ^ length bs
unfolding value
value-lt every-nil = omega arith
value-lt (every-cons {x = b} {xs = bs} p h) =
    let k : value (0 * 2 + b) bs ≡ (0 * 2 + b) * 2 ^ length bs + value 0 bs = value-split (0 * 2 + b) bs in
    let z : 0 * 2 + b ≡ b = omega arith in
    let l : value 0 bs < 2 ^ length bs = value-lt h in
    let m : b * 2 ^ length bs ≤ 1 * 2 ^ length bs = mul-le-mul_right (2 ^ length bs) (omega arith) in
    rw (k, z, pow-suc 2 (length bs)) (omega arith)

value-high : (v : ℕ) {bs : List ℕ} → Every Bit bs → value v bs / 2 ^ length bs ≡ v
value-high v {bs} h = rw (value-split v bs) (high v (length bs) (value-lt h))

-- Bits are the code of the number that they make.
pub code-value : (v : ℕ) {bs : List ℕ} → Every Bit bs → code (length bs) (value v bs) ≡ bs
unfolding code value
code-value v every-nil = refl
code-value v (every-cons {x = b} {xs = bs} p h) =
    let e : value (v * 2 + b) bs / 2 ^ length bs ≡ v * 2 + b = value-high (v * 2 + b) h in
    let d : (v * 2 + b) % 2 ≡ b = omega arith in
    rw (e, d, code-value (v * 2 + b) h)

-- The bits from a position spell their number.
pub number-spells : (s : List ℕ) (k w : ℕ) → k + w ≤ 8 * length s → Spells s k (k + w) (code w (number s k w))
unfolding number
number-spells s k w h =
    let l : k + w ≤ length (bits_of s) = rw bits_of-length h in
    let n : length (take w (drop k (bits_of s))) ≡ w =
    length-take-le w (drop k (bits_of s)) (rw length-drop (omega arith)) in
    let e : code w (value 0 (take w (drop k (bits_of s)))) ≡ take w (drop k (bits_of s)) =
    rw n at (code-value 0 (every_take w (every_drop k (bits_are s)))) in
    record { size = rw code-length (omega arith); here = l; are = rw code-length (sym e) }

pub field-spells : (s : List ℕ) (k w : ℕ) {v q : ℕ} → field s k w ≡ got v q → Spells s k q (code w v)
field-spells s k w e =
    let f = field-read s k w e in
    rw (f.is, f.end) (number-spells s k w f.here)
