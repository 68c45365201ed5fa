-- What is said of a table in its struct of arrays, with its counts. Assumes nothing: definitions.
use Rattle.std.specs.Prelude.{ℕ, List, Option, Result}
use Rattle.refusal.specs.declared.Refusal.{Refusal}
use Rattle.bits.specs.Got.{Got}
use Rattle.file_rules.specs.declared.Counts.{Counts}
use Rattle.file_rules.specs.declared.Sorts.{Sorts}
use Rattle.file_rules.specs.declared.Table.{Table as Arrays}
use Rattle.file_rules.specs.Table.{Table}
use Rattle.table_rows.specs.Standing.{SortsStand, Stands, StandsWhole}
use Rattle.table_rows.specs.Rooted.{RootIs}
use Rattle.table_rows.specs.Flattened.{Flattens}
use Rattle.table_rows.specs.Opening.{Opens}
use Rattle.table_rows.specs.Loading.{Loads}
use Rattle.table_rows.specs.declared.prepare.Root.{Root}
use Rattle.table_rows.specs.declared.prepare.Flat.{Flat}
use Rattle.table_rows.specs.declared.Loaded.{Loaded}

-- The sorts of an accepted table stand in the struct of sorts.
abbrev pub sorts_stand : Counts → Sorts → Table → Type 0
sorts_stand n x = SortsStand n.sorts n.literals x.kinds x.classes

-- An accepted table stands in the struct, but for its literals and names.
abbrev pub stands : Counts → Arrays → Table → Type 0
stands n a =
    Stands n.sorts n.functions n.rows a.sorts.kinds a.sorts.classes
    a.functions.declared a.functions.costs a.functions.unextractable a.functions.hidden
    a.functions.outputs a.functions.arities a.functions.arguments
    a.rows.functions a.rows.subsumed a.rows.cells

-- The same of its sorts and the number of its literals.
abbrev pub stands_whole : Counts → Arrays → Table → Type 0
stands_whole n a =
    StandsWhole n.sorts n.literals n.functions n.rows a.sorts.kinds a.sorts.classes
    a.functions.declared a.functions.costs a.functions.unextractable a.functions.hidden
    a.functions.outputs a.functions.arities a.functions.arguments
    a.rows.functions a.rows.subsumed a.rows.cells

abbrev pub root_is : Counts → Sorts → ℕ → ℕ → Option Root → Type 0
root_is n x s v r = RootIs n.sorts n.literals x.kinds x.classes s v r

abbrev pub flattens : Counts → List ℕ → Arrays → Flat → List ℕ → List ℕ → List ℕ → List ℕ → List ℕ → Type 0
flattens n roots a f =
    Flattens n.sorts n.functions n.rows roots a.sorts.kinds a.sorts.classes
    a.functions.declared a.functions.costs a.functions.unextractable a.functions.hidden
    a.functions.outputs a.functions.arities a.functions.arguments
    a.rows.functions a.rows.subsumed a.rows.cells f.rows f.children f.classes

abbrev pub opens :
    Counts → ℕ → ℕ → Arrays → Option Loaded → List ℕ → List ℕ → List ℕ → List ℕ → List ℕ → Type 0
opens n s v a =
    Opens n.sorts n.literals n.functions n.rows s v a.sorts.kinds a.sorts.classes
    a.functions.declared a.functions.costs a.functions.unextractable a.functions.hidden
    a.functions.outputs a.functions.arities a.functions.arguments
    a.rows.functions a.rows.subsumed a.rows.cells

abbrev pub loads :
    Got Table → ℕ → ℕ → Result Loaded Refusal → Arrays → List ℕ → List ℕ → List ℕ → List ℕ → List ℕ → Type 0
loads g s v r a = Loads g s v r a.literals a.functions.names a.functions.arities a.rows.functions a.rows.cells
