-- A table in its arrays. Assumes nothing: a definition.
use Rattle.std.specs.Prelude.{ℕ, List}
use Rattle.file_rules.specs.Table.{Table}
use Rattle.file_rules.specs.Arrays.{HoldsSorts, HoldsFunctions, HoldsRows}

-- The table stands in its arrays.
pub record Holds (t : Table)
    (kinds classes names declared costs unextractable hidden : List ℕ)
    (outputs arities arguments row_functions subsumed cells : List ℕ) : Type 0 where
  pub sorts_held : HoldsSorts kinds classes t.sorts
  pub functions_held :
      HoldsFunctions names declared costs unextractable hidden outputs arities arguments t.functions
  pub rows_held : HoldsRows row_functions subsumed cells t.rows
