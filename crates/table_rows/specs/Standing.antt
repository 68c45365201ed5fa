-- An accepted table in the arrays that a call is lent, with its counts. Assumes nothing: definitions.
use Rattle.std.specs.Prelude.{ℕ, ◌≡◌, List, length}
use Rattle.file_rules.specs.Table.{Table}
use Rattle.file_rules.specs.Accepted.{Accepted}
use Rattle.file_rules.specs.Arrays.{HoldsSorts}
use Rattle.table_rows.specs.Held.{Holds}

-- Some table is as P says.
pub record Some (P : Table → Type 0) : Type 0 where
  pub table : Table
  pub is : P table

-- The sorts of an accepted table stand in the two arrays; how many sorts and literals it has.
pub record SortsStand (sorts literals : ℕ) (kinds classes : List ℕ) (t : Table) : Type 0 where
  pub accepted : Accepted t
  pub sorts_are : length t.sorts ≡ sorts
  pub literals_are : length t.literals ≡ literals
  pub held : HoldsSorts kinds classes t.sorts

-- An accepted table stands in the arrays, its functions' names in one of their own; how many sorts, functions and
-- rows it has.
pub record Stands (sorts functions rows : ℕ)
    (kinds classes declared costs unextractable hidden : List ℕ)
    (outputs arities arguments row_functions subsumed cells : List ℕ) (t : Table) : Type 0 where
  pub accepted : Accepted t
  pub sorts_are : length t.sorts ≡ sorts
  pub functions_are : length t.functions ≡ functions
  pub rows_are : length t.rows ≡ rows
  pub names : List ℕ
  pub held :
      Holds t kinds classes names declared costs unextractable hidden outputs arities arguments row_functions subsumed
      cells

-- The same of its sorts and the number of its literals.
pub record StandsWhole (sorts literals functions rows : ℕ)
    (kinds classes declared costs unextractable hidden : List ℕ)
    (outputs arities arguments row_functions subsumed cells : List ℕ) (t : Table) : Type 0 where
  pub sorts_stand : SortsStand sorts literals kinds classes t
  pub stands :
      Stands sorts functions rows kinds classes declared costs unextractable hidden outputs arities arguments
      row_functions
      subsumed cells t
