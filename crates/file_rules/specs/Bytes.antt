-- Bytes made of bits, most significant bit first: document 01, 'The table file'. Assumes nothing: definitions.
use Rattle.std.specs.Prelude.{ℕ, zero, suc, ◌/◌, List, [], ◌∷◌, length, take, drop}
use Rattle.bits.specs.Bits.{value}
use Rattle.file_rules.specs.Table.{Table}
use Rattle.file_rules.specs.Code.{code_file}

-- The first n bytes that the bits make.
unfoldable pub packed : ℕ → List ℕ → List ℕ
packed zero bits = []
packed (suc n) bits = value 0 (take 8 bits) ∷ packed n (drop 8 bits)

-- The file of a table.
unfoldable pub file_of : Table → List ℕ
file_of t = packed (length (code_file t) / 8) (code_file t)
