-- The bits of a table: document 01, 'The table file', from the table to the file. Assumes nothing: definitions.
use Rattle.std.specs.Prelude.{ℕ, zero, suc, ◌-◌, ◌/◌, ◌%◌, ◌^◌, List, [], ◌∷◌, ◌++◌, eqb, ℤ, pos, negsuc, length, replicate}
use Rattle.bits.specs.Got.{pick}
use Rattle.file_rules.specs.Table.{Sort, Function, Row, Table}
use Rattle.file_rules.specs.Arrays.{blocks}
use Rattle.file_rules.specs.File.{pad_bits}

-- The w bits of a number, most significant first.
unfoldable pub code : ℕ → ℕ → List ℕ
code zero v = []
code (suc w) v = (v / 2 ^ w % 2) ∷ code w v

-- A count of w bits, and then each in turn.
abbrev pub code_many : {A : Type 0} → ℕ → (A → List ℕ) → List A → List ℕ
code_many w c xs = code w (length xs) ++ blocks c xs

unfoldable pub code_sort : Sort → List ℕ
code_sort x = code 1 x.kind ++ pick (eqb x.kind 0) [] (code 10 x.classes)

-- The 64 bits of a signed number in two's complement.
unfoldable pub unsigned : ℤ → ℕ
unsigned (pos n) = n
unsigned (negsuc n) = 2 ^ 64 - 1 - n

unfoldable pub code_literal : ℤ → List ℕ
code_literal z = code 64 (unsigned z)

-- A cost: whether there is one, and then the cost.
abbrev pub code_cost : ℕ → ℕ → List ℕ
code_cost has cost = code 1 has ++ pick (eqb has 0) [] (code 64 cost)

unfoldable pub code_function : Function → List ℕ
code_function f =
    code_many 5 (code 8) f.name
    ++ (code_cost f.has_cost f.cost
    ++ ((code 1 f.unextractable ++ code 1 f.hidden) ++ (code 5 f.output ++ code_many 4 (code 5)
    f.arguments)))

unfoldable pub code_row : Row → List ℕ
code_row r = code 7 r.function ++ (code 1 r.subsumed ++ blocks (code 9) r.cells)

unfoldable pub code_table : Table → List ℕ
code_table t =
    code 4 1
    ++ (code_many 5 code_sort t.sorts
    ++ (code_many 9 code_literal t.literals
    ++ (code_many 7 code_function t.functions ++ code_many 11 code_row t.rows)))

-- The bits of the file: the table's, and zeros to the byte's end.
unfoldable pub code_file : Table → List ℕ
code_file t = code_table t ++ replicate (pad_bits (length (code_table t))) 0
