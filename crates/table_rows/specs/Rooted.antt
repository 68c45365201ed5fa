-- The root of a table: document 01, refusal 10 and 'Costs and choice'. Assumes nothing: definitions.
use Rattle.std.specs.Prelude.{ℕ, ◌≡◌, true, false, List, Option, Some, None, eqb}
use Rattle.file_rules.specs.Table.{Table}
use Rattle.table_rules.specs.Rules.Classes.{sort_of, flat_class, is_root}
use Rattle.table_rows.specs.Standing.{SortsStand}
use Rattle.table_rows.specs.declared.prepare.Root.{Root}
use Rattle.table_rows.specs.declared.prepare.Root.TheVariants.{Class, Literal}

-- "BadRoot: asked sort not below S, or value out of its range"; else a base root is a literal, an eq root a class.
unfoldable pub root_of : Table → ℕ → ℕ → Option Root
root_of t s v =
    elim (is_root t s v) [
      | false ↦ None
      | true ↦ elim (eqb (sort_of t s).kind 0) [ true ↦ Some (Literal v) | false ↦ Some (Class (flat_class t s v)) ]
    ]

-- The root of every table that stands in the arrays.
abbrev pub RootIs : ℕ → ℕ → List ℕ → List ℕ → ℕ → ℕ → Option Root → Type 0
RootIs sorts literals kinds classes s v r =
    (t : Table) → SortsStand sorts literals kinds classes t → r ≡ root_of t s v
