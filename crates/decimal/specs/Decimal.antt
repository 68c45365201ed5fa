-- Decimal text: document 01, 'What is ported, in order'. A text is a list of bytes. Assumes nothing: these are
-- definitions.
use Rattle.std.specs.Prelude.{ℕ, zero, suc, ◌+◌, ◌/◌, ◌%◌, true, false, List, [], ◌∷◌, ◌++◌, ℤ, pos, negsuc, ltb}

-- the digits of x, where f is above x
unfoldable pub digits_in : ℕ → ℕ → List ℕ
digits_in zero x = []
digits_in (suc f) x =
    elim (ltb x 10) [ true ↦ (x + 48) ∷ [] | false ↦ digits_in f (x / 10) ++ ((x % 10 + 48) ∷ []) ]

-- the decimal digits of x: no leading zero
unfoldable pub digits : ℕ → List ℕ
digits x = digits_in (suc x) x

-- "a negative literal prints a minus and its exact magnitude, no literal a plus or leading zero"
unfoldable pub literal_text : ℤ → List ℕ
literal_text (pos n) = digits n
literal_text (negsuc n) = 45 ∷ digits (suc n)
