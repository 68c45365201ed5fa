-- A field of the file: document 01, 'Refusal numbers', Short "the input ends before a field does". Assumes nothing:
-- definitions.
use Rattle.std.specs.Prelude.{ℕ, ◌+◌, List, Bool, leb, length, Result, Ok, Err}
use Rattle.refusal.specs.declared.Refusal.{Refusal}
use Rattle.refusal.specs.declared.Refusal.TheVariants.{Short as NoMore}
use Rattle.bits.specs.Bits.{bits_of, number}
use Rattle.bits.specs.Got.{Got, got, refused, must}

-- Whether the input has the w bits from position k.
unfoldable pub holds : List ℕ → ℕ → ℕ → Bool
holds s k w = leb (k + w) (length (bits_of s))

-- The field of w bits at position k: Short exactly when the input ends before the field does.
unfoldable pub field : List ℕ → ℕ → ℕ → Got ℕ
field s k w = must (holds s k w) NoMore (got (number s k w) (k + w))

-- The code's answer as a reading.
abbrev pub got_of : Result (ℕ × ℕ) Refusal → Got ℕ
got_of (Ok (v, k)) = got v k
got_of (Err r) = refused r
