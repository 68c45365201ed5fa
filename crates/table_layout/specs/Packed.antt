-- Rows packed out of flat lists: what is asked of the lists, and how the rows stand. Assumes nothing: definitions.
use Rattle.std.specs.Prelude.{◌≡◌, List, ℕ, ◌+◌, ◌-◌, ◌*◌, ◌<◌, ◌≤◌, length, get_or, take, drop}
use Rattle.table_layout.specs.Rows.{width, file_row_at, function_at, output_at, count_at, children_at}

-- Every number of the list fits 16 bits.
abbrev pub Narrow : List ℕ → Type 0
Narrow xs = (i : ℕ) → i < length xs → get_or xs i 0 < 65536

-- The children of row i, from its start to the next.
abbrev pub part_of : List ℕ → List ℕ → ℕ → List ℕ
part_of starts children i = take (get_or starts (i + 1) 0 - get_or starts i 0) (drop (get_or starts i 0) children)

-- The lists are rows whose numbers fit: as many as `outputs` has.
pub record PackReady (order functions outputs starts children : List ℕ) : Type 0 where
  pub few_rows : length outputs ≤ 1024
  pub order_length : length order ≡ length outputs
  pub starts_length : length starts ≡ length outputs + 1
  pub few_functions : length functions ≤ 1024
  pub row : (i : ℕ) → i < length outputs → get_or order i 0 < length functions
  pub function : (i : ℕ) → i < length outputs → get_or functions (get_or order i 0) 0 < 65536
  pub output : (i : ℕ) → i < length outputs → get_or outputs i 0 < 65536
  pub rise : (i : ℕ) → i < length outputs → get_or starts i 0 ≤ get_or starts (i + 1) 0
  pub few : (i : ℕ) → i < length outputs → get_or starts (i + 1) 0 ≤ get_or starts i 0 + 8
  pub inside : (i : ℕ) → i < length outputs → get_or starts (i + 1) 0 ≤ length children
  pub narrow : (i : ℕ) → i < length outputs → Narrow (part_of starts children i)

-- Row i stands as the lists have it.
pub record PackedRow (order functions outputs starts children rows : List ℕ) (i : ℕ) : Type 0 where
  pub file_row : file_row_at rows i ≡ get_or order i 0
  pub function : function_at rows i ≡ get_or functions (get_or order i 0) 0
  pub output : output_at rows i ≡ get_or outputs i 0
  pub few : count_at rows i ≤ 8
  pub children_are : children_at rows i ≡ part_of starts children i

-- So do the first n rows, all of them in the slice.
pub record Packed (order functions outputs starts children rows : List ℕ) (n : ℕ) : Type 0 where
  pub long : n * width ≤ length rows
  pub each : (i : ℕ) → i < n → PackedRow order functions outputs starts children rows i
