-- The reading of the rows against the structs of sorts and functions, and a function put into the struct of functions.
-- Assumes nothing: definitions.
use Rattle.std.specs.Prelude.{ℕ, List, ℤ}
use Rattle.bits.specs.Got.{Got}
use Rattle.file_rules.specs.declared.Sorts.{Sorts}
use Rattle.file_rules.specs.declared.Functions.{Functions}
use Rattle.file_rules.specs.declared.Rows.{Rows}
use Rattle.file_rules.specs.declared.Table.{Table}
use Rattle.file_rules.specs.Table.{Function, Row}
use Rattle.file_reader.specs.Parts.{rows_part_in, tail_in}
use Rattle.file_reader.specs.Put.{PutFunction}

abbrev pub rows_part_of : List ℕ → Sorts → ℕ → ℕ → Functions → ℕ → Got (List Row)
rows_part_of s x l count y at = rows_part_in s x.kinds x.classes l count y.outputs y.arities y.arguments at

abbrev pub tail_of : List ℕ → Sorts → ℕ → ℕ → Functions → ℕ → Got (List Row)
tail_of s x l count y at = tail_in s x.kinds x.classes l count y.outputs y.arities y.arguments at

-- The function at its place, the rest as before.
abbrev pub put_function : ℕ → Functions → Functions → Function → Type 0
put_function i before after =
    PutFunction i
    before.names before.declared before.costs before.unextractable
    before.hidden before.outputs before.arities before.arguments
    after.names after.declared after.costs after.unextractable
    after.hidden after.outputs after.arities after.arguments

-- The table of four parts.
abbrev pub table_of : Sorts → List ℤ → Functions → Rows → Table
table_of sorts literals functions rows =
    record { sorts = sorts; literals = literals; functions = functions; rows = rows }
