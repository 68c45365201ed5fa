-- The reading of rows against the structs of sorts and functions, and into the struct of rows. Assumes nothing:
-- definitions.
use Rattle.std.specs.Prelude.{ℕ, List}
use Rattle.bits.specs.Got.{Got}
use Rattle.file_rules.specs.declared.Sorts.{Sorts}
use Rattle.file_rules.specs.declared.Functions.{Functions}
use Rattle.file_rules.specs.declared.Rows.{Rows}
use Rattle.file_rules.specs.Table.{Row}
use Rattle.file_rows.specs.In.{range_in, column_in, cells_in, row_in, rows_in, Sound, PutRow}

-- The bound of a cell of a sort.
abbrev pub range_of : Sorts → ℕ → ℕ → ℕ
range_of x l k = range_in x.kinds x.classes l k

-- The sort of a column of a function.
abbrev pub column_of : Functions → ℕ → ℕ → ℕ
column_of y f j = column_in y.outputs y.arities y.arguments f j

abbrev pub cells_of : List ℕ → Sorts → ℕ → Functions → ℕ → ℕ → Got (List ℕ)
cells_of s x l y f at = cells_in s x.kinds x.classes l y.outputs y.arities y.arguments f at

abbrev pub row_of : List ℕ → Sorts → ℕ → ℕ → Functions → ℕ → Got Row
row_of s x l count y at = row_in s x.kinds x.classes l count y.outputs y.arities y.arguments at

abbrev pub rows_of : List ℕ → Sorts → ℕ → ℕ → Functions → ℕ → ℕ → Got (List Row)
rows_of s x l count y n at = rows_in s x.kinds x.classes l count y.outputs y.arities y.arguments n at

-- The functions are in range for the reading of rows.
abbrev pub sound : Functions → Type 0
sound y = Sound y.outputs y.arities y.arguments

-- The row at its place, the rest as before.
abbrev pub put_row : ℕ → Rows → Rows → Row → Type 0
put_row i before after =
    PutRow i before.functions before.subsumed before.cells after.functions after.subsumed after.cells
