-- The rows of a table as the choice of terms sees them. Assumes nothing: definitions.
use Rattle.std.specs.Prelude.{Bool, true, false, ◌&&◌, List, [], ◌∷◌, map, ℕ, eqb, length, get_or}
use Rattle.choice_rules.specs.Rows.{Child, Row}
use Rattle.file_rules.specs.Table.{Table, Function, Row as TableRow}
use Rattle.table_rules.specs.Rules.Classes.{flat_class, child_of}

-- What stands past the last function and row; nothing below asks for it.
abbrev pub no_function : Function
no_function =
    record { name = []; has_cost = 0; cost = 0; unextractable = 0; hidden = 0; output = 0; arguments = [] }

abbrev pub no_table_row : TableRow
no_table_row = record { function = 0; subsumed = 0; cells = [] }

abbrev pub function_of : Table → ℕ → Function
function_of t f = get_or t.functions f no_function

abbrev pub table_row_of : Table → ℕ → TableRow
table_row_of t r = get_or t.rows r no_table_row

-- "head cost (none declared: 1)"
unfoldable pub head_cost : Function → ℕ
head_cost f = elim (eqb f.has_cost 0) [ true ↦ 1 | false ↦ f.cost ]

-- Cells with their sorts, one for one.
unfoldable pub children_of : Table → List ℕ → List ℕ → List Child
children_of t [] cells = []
children_of t (s ∷ sorts) [] = []
children_of t (s ∷ sorts) (v ∷ cells) = child_of t s v ∷ children_of t sorts cells

-- A row: the class of its output cell, its children left to right, its function's head cost.
unfoldable pub row_by : Table → Function → TableRow → Row
row_by t f r = record {
  output = flat_class t f.output (get_or r.cells (length f.arguments) 0);
  children = children_of t f.arguments r.cells;
  head = head_cost f;
}

-- All rows of the table, in file order.
unfoldable pub table_rows : Table → List Row
table_rows t = map (λ (r : TableRow). row_by t (function_of t r.function) r) t.rows

-- "Usable functions are neither unextractable nor hidden"
unfoldable pub usable_function : Function → Bool
usable_function f = eqb f.unextractable 0 && eqb f.hidden 0

-- "usable rows are their unsubsumed rows"
unfoldable pub usable : Table → ℕ → Bool
usable t r = usable_function (function_of t (table_row_of t r).function) && eqb (table_row_of t r).subsumed 0
