-- A table: what a table file holds, in the words of document 01, 'The table file'. Assumes nothing: definitions.
use Rattle.std.specs.Prelude.{ℕ, List, ℤ}

-- A sort: its kind (0 base, 1 eq) and its class count (0 for a base sort).
pub record Sort : Type 0 where
  pub kind : ℕ
  pub classes : ℕ

-- A function: its name's bytes, whether it has a cost (1) or none (0), the cost (0 where there is none), whether it is
-- unextractable and hidden (1) or not (0), its output sort and its argument sorts.
pub record Function : Type 0 where
  pub name : List ℕ
  pub has_cost : ℕ
  pub cost : ℕ
  pub unextractable : ℕ
  pub hidden : ℕ
  pub output : ℕ
  pub arguments : List ℕ

-- A row: its function, whether it is subsumed (1) or not (0), a cell for each argument and then one for the output.
pub record Row : Type 0 where
  pub function : ℕ
  pub subsumed : ℕ
  pub cells : List ℕ

pub record Table : Type 0 where
  pub sorts : List Sort
  pub literals : List ℤ
  pub functions : List Function
  pub rows : List Row
