-- An accepted table that the reader left in its arrays stands there, with its counts. Assumes nothing.
use mathlib.Core.Path.{refl}
use mathlib.Core.List.{List}
use Prim.Native.Nat.{ℕ}
use lib.IntN.{ℤ}
use lib.ListN.{length}
use Rattle.file_rules.specs.Table.{Table}
use Rattle.file_rules.specs.Accepted.{Accepted}
use Rattle.file_rules.specs.Arrays.{Holds}
use Rattle.table_rows.specs.Standing.{StandsWhole}

pub stands-of-holds :
    {kinds classes : List ℕ} {literals : List ℤ} {names declared costs unextractable hidden : List ℕ}
    {outputs arities arguments row_functions subsumed cells : List ℕ} {t : Table} →
    Accepted t →
    Holds kinds classes literals names declared costs unextractable hidden outputs arities arguments row_functions
    subsumed
    cells t →
    StandsWhole (length t.sorts) (length t.literals) (length t.functions) (length t.rows)
    kinds classes declared costs unextractable hidden outputs arities arguments row_functions subsumed cells t
stands-of-holds {names = names} ok h = record {
  sorts_stand = record { accepted = ok; sorts_are = refl; literals_are = refl; held = h.sorts_held };
  stands = record {
    accepted = ok;
    sorts_are = refl;
    functions_are = refl;
    rows_are = refl;
    names = names;
    held = record { sorts_held = h.sorts_held; functions_held = h.functions_held; rows_held = h.rows_held };
  };
}
