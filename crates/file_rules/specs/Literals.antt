-- The literals of a table file: document 01, 'The table file', its third line. Assumes nothing: definitions.
use Rattle.std.specs.Prelude.{ℕ, ◌-◌, ◌^◌, List, [], ltb, ℤ, pos, negsuc}
use Rattle.bits.specs.Got.{Got, got, then, pick, many}
use Rattle.bits.specs.Field.{field}

-- The number that 64 bits are in two's complement: v below 2^63, else v - 2^64; `negsuc n` is -(n + 1).
unfoldable pub signed : ℕ → ℤ
signed v = pick (ltb v (2 ^ 63)) (pos v) (negsuc (2 ^ 64 - 1 - v))

-- "each literal 64 bits, two's complement"
unfoldable pub literal_at : List ℕ → ℕ → Got ℤ
literal_at s at = then (field s at 64) (λ v p. got (signed v) p)

-- n literals.
unfoldable pub literals_at : List ℕ → ℕ → ℕ → Got (List ℤ)
literals_at s n at = many (λ xs p. literal_at s p) n at []
