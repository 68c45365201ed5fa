-- Laws of a field: when it is there, what it holds and where it ends. Assumes nothing.
use Prim.{Dec, yes, no}
use Prim.Native.Nat.{ℕ, ◌+◌, ◌*◌, ◌/◌, ◌^◌, ◌<◌, ◌≤◌}
use mathlib.Core.List.{List}
use mathlib.Core.Bool.{Bool, true, false}
use mathlib.Core.Path.{◌≡◌, refl, sym, ap, ◌∙◌}
use native.Mathlib.Decide.{dec_le}
use native.Mathlib.Omega.{arith}
use lib.Dec.{leb}
use lib.ListN.{length}
use borrow.Author.Tests.{le-leb, lt-leb, leb-true, leb-false}
use Rattle.refusal.specs.declared.Refusal.{Refusal}
use Rattle.refusal.specs.declared.Refusal.TheVariants.{Short as NoMore}
use Rattle.bits.specs.Bits.{number}
use Rattle.bits.specs.Got.{Got, got, refused, must}
use Rattle.bits.specs.Field.{field, holds, got_of}
use Rattle.std.specs.Prelude.{Result, Ok, Err}
use Rattle.bits.proofs.BitsLaws.{bits_of-length, number_lt}

pub holds-of-le : (s : List ℕ) (k w : ℕ) → k + w ≤ 8 * length s → holds s k w ≡ true
unfolding holds
holds-of-le s k w h = rw bits_of-length (le-leb _ _ h)

pub holds-of-lt : (s : List ℕ) (k w : ℕ) → 8 * length s < k + w → holds s k w ≡ false
unfolding holds
holds-of-lt s k w h = rw bits_of-length (lt-leb _ _ h)

pub holds-true : (s : List ℕ) (k w : ℕ) → holds s k w ≡ true → k + w ≤ 8 * length s
unfolding holds
holds-true s k w e = leb-true _ _ (rw bits_of-length at e)

pub holds-false : (s : List ℕ) (k w : ℕ) → holds s k w ≡ false → 8 * length s < k + w
unfolding holds
holds-false s k w e = leb-false _ _ (rw bits_of-length at e)

bytes-hold : (s : List ℕ) (k w : ℕ) → Dec ((k + w + 7) / 8 ≤ length s) → leb ((k + w + 7) / 8) (length s) ≡ holds s k w
bytes-hold s k w (yes h) = le-leb _ _ h ∙ sym (holds-of-le s k w (omega arith))
bytes-hold s k w (no h) = lt-leb ((k + w + 7) / 8) (length s) (omega arith) ∙ sym (holds-of-lt s k w (omega arith))

-- Whole bytes are enough exactly when the bits are.
pub holds-of-bytes : (s : List ℕ) (k w : ℕ) → leb ((k + w + 7) / 8) (length s) ≡ holds s k w
holds-of-bytes s k w = bytes-hold s k w (dec_le ((k + w + 7) / 8) (length s))

pub field-of-holds : (s : List ℕ) (k w : ℕ) → holds s k w ≡ true → field s k w ≡ got (number s k w) (k + w)
unfolding field must
field-of-holds s k w e = rw e

pub field-refuses : (s : List ℕ) (k w : ℕ) → holds s k w ≡ false → field s k w ≡ refused NoMore
unfolding field must
field-refuses s k w e = rw e

-- What a field that was read is, and where it ends.
pub record Field-read (s : List ℕ) (k w v q : ℕ) : Type 0 where
  pub end : q ≡ k + w
  pub here : k + w ≤ 8 * length s
  pub is : v ≡ number s k w
  pub small : v < 2 ^ w

read_by : (s : List ℕ) (k w v q : ℕ) (b : Bool) → holds s k w ≡ b
    → got v q ≡ must b NoMore (got (number s k w) (k + w))
    → Field-read s k w v q
unfolding must
read_by s k w v q true h e =
    let a : v ≡ number s k w = cc in
    let l : k + w ≤ 8 * length s = holds-true s k w h in
    record { end = cc; here = l; is = a; small = rw a (number_lt s k w l) }
read_by s k w v q false h e =
    let z : ◌≡◌ {A = ℕ} 0 1 = cc in
    let n : ⊥ = omega arith in
    absurd n

pub field-read : (s : List ℕ) (k w : ℕ) {v q : ℕ} → field s k w ≡ got v q → Field-read s k w v q
unfolding field
field-read s k w {v} {q} e = read_by s k w v q (holds s k w) refl (sym e)

-- The code's answer told by its case.
pub field-value : {g : Got ℕ} {r : Result (ℕ × ℕ) Refusal} {v q : ℕ} → got_of r ≡ g → r ≡ Ok (v, q) → g ≡ got v q
field-value e d = sym e ∙ ap got_of d

pub field-refused : {g : Got ℕ} {r : Result (ℕ × ℕ) Refusal} {x : Refusal} → got_of r ≡ g → r ≡ Err x → g ≡ refused x
field-refused e d = sym e ∙ ap got_of d
