-- A table file: document 01, 'The table file', line by line. Assumes nothing: definitions.
use Rattle.std.specs.Prelude.{ℕ, ◌-◌, ◌*◌, ◌%◌, List, leb, eqb, ℤ, length}
use Rattle.refusal.specs.declared.Refusal.TheVariants.{BadVersion, BadSize, Trailing}
use Rattle.bits.specs.Got.{Got, got, then, must}
use Rattle.bits.specs.Field.{field}
use Rattle.file_rules.specs.Table.{Sort, Function, Row, Table}
use Rattle.file_rules.specs.Sorts.{kinds_of, sorts_at}
use Rattle.file_rules.specs.Literals.{literals_at}
use Rattle.file_rules.specs.Functions.{functions_at}
use Rattle.file_rules.specs.Rows.{rows_at}

-- "version 4 bits, must be 1"
unfoldable pub version_at : List ℕ → ℕ → Got ℕ
version_at s at = then (field s at 4) (λ v p. must (eqb v 1) BadVersion (got v p))

-- "sort count S, 5 bits", then the sorts.
unfoldable pub sorts_part : List ℕ → ℕ → Got (List Sort)
sorts_part s at = then (field s at 5) (λ n p. sorts_at s n p)

-- "literal count L, 9 bits", then the literals.
unfoldable pub literals_part : List ℕ → ℕ → Got (List ℤ)
literals_part s at = then (field s at 9) (λ n p. literals_at s n p)

-- "function count F, 7 bits", then the functions, over sorts of the kinds.
unfoldable pub functions_part : List ℕ → List ℕ → ℕ → Got (List Function)
functions_part s kinds at = then (field s at 7) (λ n p. functions_at s kinds n p)

-- "row count 11 bits, 0 to 1,024", then the rows, over the sorts, l literals and the functions.
unfoldable pub rows_part : List ℕ → List Sort → ℕ → List Function → ℕ → Got (List Row)
rows_part s sorts l functions at =
    then (field s at 11) (λ n p. must (leb n 1024) BadSize (rows_at s sorts l functions n p))

-- The bits from position at to the byte's end.
abbrev pub pad_bits : ℕ → ℕ
pad_bits at = (8 - at % 8) % 8

-- "zero bits to the byte's end; then the file ends": Trailing, "a pad bit is set, or bytes follow".
unfoldable pub end_at : List ℕ → ℕ → Got ℕ
end_at s at =
    then (field s at (pad_bits at)) (λ v p.
    must (eqb v 0) Trailing
    (must (eqb p (8 * length s)) Trailing
    (got p p)))

-- The whole file.
unfoldable pub table_at : List ℕ → Got Table
table_at s =
    then (version_at s 0) (λ version a.
    then (sorts_part s a) (λ sorts b.
    then (literals_part s b) (λ literals c.
    then (functions_part s (kinds_of sorts) c) (λ functions d.
    then (rows_part s sorts (length literals) functions d) (λ rows e.
    then (end_at s e) (λ end f.
    got (record { sorts = sorts; literals = literals; functions = functions; rows = rows }) f))))))
