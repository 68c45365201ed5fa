-- How the rows that a root sort reaches lie in one slice of numbers, in scan order: twelve numbers a row. An inner
-- definition: the rows themselves are `Rows` of `choice_rules`. Assumes nothing: definitions.
use Rattle.std.specs.Prelude.{cond, List, ◌∷◌, map, ℕ, ◌+◌, ◌-◌, ◌*◌, ◌<◌, ◌≤◌, length, get_or, take, drop, ltb}
use Rattle.std.proofs.Math.Seq.{paste}
use Rattle.choice_rules.specs.Rows.{Child, literal, class, Row, tabulate}

-- The numbers of a row: the row of the file, its function, the class of its output, the count of its children, and
-- eight child places.
abbrev pub width : ℕ
width = 12

-- Row i is in the slice.
abbrev pub HasRow : List ℕ → ℕ → Type 0
HasRow rows i = i * width + width ≤ length rows

abbrev pub file_row_at : List ℕ → ℕ → ℕ
file_row_at rows i = get_or rows (i * width) 0

abbrev pub function_at : List ℕ → ℕ → ℕ
function_at rows i = get_or rows (i * width + 1) 0

abbrev pub output_at : List ℕ → ℕ → ℕ
output_at rows i = get_or rows (i * width + 2) 0

abbrev pub count_at : List ℕ → ℕ → ℕ
count_at rows i = get_or rows (i * width + 3) 0

-- The numbers of its children, left to right.
abbrev pub children_at : List ℕ → ℕ → List ℕ
children_at rows i = take (count_at rows i) (drop (i * width + 4) rows)

-- A child number below 512 is the class of that number, 512 + i the literal of index i.
unfoldable pub child_of : ℕ → Child
child_of x = cond (ltb x 512) (class x) (literal (x - 512))

-- The row as the choice of terms sees it; `heads` has the head cost of each function.
abbrev pub row_in : List ℕ → List ℕ → ℕ → Row
row_in heads rows i = record {
  output = output_at rows i;
  children = map child_of (children_at rows i);
  head = get_or heads (function_at rows i) 0;
}

-- The first n rows.
abbrev pub rows_in : List ℕ → List ℕ → ℕ → List Row
rows_in heads rows n = tabulate (row_in heads rows) n

-- A child that is a class is one of n.
abbrev pub ChildIn : ℕ → ℕ → Type 0
ChildIn n x = x < 512 → x < n

-- Every child of the list is a literal or one of n classes.
abbrev pub ChildrenIn : ℕ → List ℕ → Type 0
ChildrenIn n xs = (i : ℕ) → i < length xs → ChildIn n (get_or xs i 0)

-- Row i is one over so many classes, of a function that has a head cost.
pub record RowOk (classes : ℕ) (heads rows : List ℕ) (i : ℕ) : Type 0 where
  pub known : function_at rows i < length heads
  pub output : output_at rows i < classes
  pub few : count_at rows i ≤ 8
  pub children : ChildrenIn classes (children_at rows i)

-- The first n rows are such, all of them in the slice.
pub record RowsOk (classes n : ℕ) (heads rows : List ℕ) : Type 0 where
  pub few_classes : classes ≤ 512
  pub few_rows : n ≤ 1024
  pub long : n * width ≤ length rows
  pub each : (i : ℕ) → i < n → RowOk classes heads rows i

-- The numbers of a row of the file, of function f with output c and these children.
abbrev pub row_numbers : ℕ → ℕ → ℕ → List ℕ → List ℕ
row_numbers r f c ks = r ∷ f ∷ c ∷ length ks ∷ ks

-- The rows after row i was put: its places past its children stay.
abbrev pub put_row : List ℕ → ℕ → ℕ → ℕ → ℕ → List ℕ → List ℕ
put_row rows i r f c ks = paste rows (i * width) (row_numbers r f c ks) (4 + length ks)
