-- A root and the rows that its sort reaches. Assumes nothing: definitions.
use Prim.{Unit}
use Rattle.std.specs.Prelude.{ℕ, ◌≡◌, List, [], ◌∷◌, Option, Some, None}
use Rattle.file_rules.specs.Table.{Table}
use Rattle.table_rows.specs.Standing.{StandsWhole}
use Rattle.table_rows.specs.Rooted.{root_of}
use Rattle.table_rows.specs.Flattened.{Flattened}
use Rattle.table_rows.specs.declared.prepare.Root.{Root}
use Rattle.table_rows.specs.declared.prepare.Root.TheVariants.{Class as RootClass, Literal as RootLiteral}
use Rattle.table_rows.specs.declared.Loaded.{Loaded}
use Rattle.table_rows.specs.declared.Loaded.TheVariants.{Class, Literal}

-- The root of an answer.
abbrev pub root_in : Option Loaded → Option Root
root_in None = None
root_in (Some (Literal i)) = Some (RootLiteral i)
root_in (Some (Class c f)) = Some (RootClass c)

-- P of the numbers of rows, children and classes, where the answer is a class.
abbrev pub OnClass : Option Loaded → (ℕ → ℕ → ℕ → Type 0) → Type 0
OnClass None P = Unit {0}
OnClass (Some (Literal i)) P = Unit {0}
OnClass (Some (Class c f)) P = P f.rows f.children f.classes

-- The answer is the table's root, and the lists hold the rows that its sort reaches.
pub record OpenedOf
    (t : Table) (s v : ℕ) (r : Option Loaded) (order flat heads starts children : List ℕ) : Type 0 where
  pub root_is : root_in r ≡ root_of t s v
  pub reached : OnClass r (λ n m w. Flattened t (s ∷ []) n m w order flat heads starts children)

-- `OpenedOf` holds of every table that stands in the arrays.
abbrev pub Opens :
    ℕ → ℕ → ℕ → ℕ → ℕ → ℕ →
    List ℕ → List ℕ → List ℕ → List ℕ → List ℕ → List ℕ →
    List ℕ → List ℕ → List ℕ → List ℕ → List ℕ → List ℕ →
    Option Loaded → List ℕ → List ℕ → List ℕ → List ℕ → List ℕ → Type 0
Opens sorts literals functions rows s v kinds classes declared costs unextractable hidden outputs arities arguments
    row_functions subsumed cells r order flat heads starts children =
    (t : Table) →
    StandsWhole sorts literals functions rows kinds classes declared costs unextractable hidden outputs arities
    arguments
    row_functions subsumed cells t →
    OpenedOf t s v r order flat heads starts children
