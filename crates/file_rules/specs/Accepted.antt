-- What holds of an accepted table: what the layers above may rely on. Assumes nothing: definitions.
use Rattle.std.specs.Prelude.{ℕ, ◌^◌, ◌≤◌, ◌<◌, ◌≡◌, true, List, length, get_or}
use Rattle.std.specs.Int.Signed.{mag}
use Rattle.name.specs.Name.{valid}
use Rattle.file_rules.specs.Table.{Sort, Function, Row, Table}
use Rattle.file_rules.specs.Sorts.{kinds_of, classes_of}
use Rattle.file_rules.specs.Every.{Every}
use Rattle.file_rules.specs.Rows.{function_no, columns, range}

-- A sort: its kind is 0 or 1, and a base sort has no classes.
pub record SortOk (x : Sort) : Type 0 where
  pub bit : x.kind < 2
  pub base : x.kind ≡ 0 → x.classes ≡ 0

-- A function over sorts of the kinds: its name is valid, its bits are bits, its cost is 0 where there is none, its
-- output is an eq sort, and it has at most 8 arguments, each a sort.
pub record FunctionOk (kinds : List ℕ) (f : Function) : Type 0 where
  pub named : valid f.name ≡ true
  pub flag : f.has_cost < 2
  pub none : f.has_cost ≡ 0 → f.cost ≡ 0
  pub small : f.cost < 2 ^ 64
  pub unextractable_bit : f.unextractable < 2
  pub hidden_bit : f.hidden < 2
  pub known : f.output < length kinds
  pub eq : get_or kinds f.output 0 ≡ 1
  pub few : length f.arguments ≤ 8
  pub sorted : Every (λ k. k < length kinds) f.arguments

-- The cells xs of the columns ks: one for each, below its bound.
pub record CellsOk (sorts : List Sort) (l : ℕ) (ks xs : List ℕ) : Type 0 where
  pub count : length xs ≡ length ks
  pub within : (j : ℕ) → j < length ks → get_or xs j 0 < range sorts l (get_or ks j 0)

-- A row over the functions: its function is one of them, its bit is a bit, and its cells are those of the columns.
pub record RowOk (sorts : List Sort) (l : ℕ) (functions : List Function) (r : Row) : Type 0 where
  pub known : r.function < length functions
  pub bit : r.subsumed < 2
  pub cells_ok : CellsOk sorts l (columns (function_no functions r.function)) r.cells

-- "Function names differ."
abbrev pub Differ : List Function → Type 0
Differ fs = (i j : ℕ) → i < j → j < length fs → (function_no fs i).name ≡ (function_no fs j).name → ⊥

-- An accepted table: each count is within its limit, each sort, function and row is as document 01 says, and names
-- differ.
pub record Accepted (t : Table) : Type 0 where
  pub sorts_few : length t.sorts ≤ 31
  pub sorts_ok : Every SortOk t.sorts
  pub classes_few : classes_of t.sorts ≤ 512
  pub literals_few : length t.literals ≤ 511
  pub literals_ok : Every (λ z. mag z < 2 ^ 63) t.literals
  pub functions_few : length t.functions ≤ 127
  pub functions_ok : Every (FunctionOk (kinds_of t.sorts)) t.functions
  pub names_differ : Differ t.functions
  pub rows_few : length t.rows ≤ 1024
  pub rows_ok : Every (RowOk t.sorts (length t.literals) t.functions) t.rows
