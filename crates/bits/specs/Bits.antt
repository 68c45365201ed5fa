-- The bits of a byte list, and the number that a run of them makes: document 01, 'The table file',
-- "Bit-packed, most significant bit first, no alignment." Assumes nothing: definitions.
use Rattle.std.specs.Prelude.{ℕ, ◌+◌, ◌*◌, ◌/◌, ◌%◌, List, [], ◌∷◌, take, drop}

-- The bits of each byte in turn, its most significant bit first.
unfoldable pub bits_of : List ℕ → List ℕ
bits_of [] = []
bits_of (b ∷ s) =
    (b / 128 % 2) ∷ (b / 64 % 2) ∷ (b / 32 % 2) ∷ (b / 16 % 2) ∷ (b / 8 % 2) ∷ (b / 4 % 2) ∷ (b / 2 % 2) ∷ (b % 2)
    ∷ bits_of s

-- The number that the bits make after those of v.
unfoldable pub value : ℕ → List ℕ → ℕ
value v [] = v
value v (b ∷ bs) = value (v * 2 + b) bs

-- The w bits from position k as a number.
unfoldable pub number : List ℕ → ℕ → ℕ → ℕ
number s k w = value 0 (take w (drop k (bits_of s)))
