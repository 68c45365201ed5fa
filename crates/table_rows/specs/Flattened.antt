-- The rows that root sorts reach, as flat rows. Assumes nothing: definitions.
use Rattle.std.specs.Prelude.{ℕ, ◌+◌, ◌≤◌, ◌<◌, ◌≡◌, List, length, get_or, take}
use Rattle.price_passes.specs.Flat.{rows_of, FlatOk}
use Rattle.file_rules.specs.Table.{Table}
use Rattle.table_rules.specs.Rules.Classes.{class_count}
use Rattle.table_rules.specs.Rules.Order.{scan_order, scanned}
use Rattle.table_rows.specs.Standing.{Stands}

-- The five lists have room for 1,024 rows of at most eight children.
pub record Space (order flat heads starts children : List ℕ) : Type 0 where
  pub order_room : 1024 ≤ length order
  pub flat_room : 1024 ≤ length flat
  pub heads_room : 1024 ≤ length heads
  pub starts_room : 1024 < length starts
  pub children_room : 8192 ≤ length children

-- n rows with m children in all, where the lists have so many: those that the root sorts reach, in scan order, over
-- all w classes of the table, each with at most eight children.
pub record Flattened (t : Table) (roots : List ℕ) (n m w : ℕ) (order flat heads starts children : List ℕ) : Type 0 where
  pub few : n ≤ length t.rows
  pub classes_are : w ≡ class_count t
  pub order_room : n ≤ length order
  pub flat_room : n ≤ length flat
  pub heads_room : n ≤ length heads
  pub starts_room : n < length starts
  pub children_room : m ≤ length children
  pub order_is : take n order ≡ scan_order t roots
  pub rows_are : rows_of (take n flat) (take n heads) (take (n + 1) starts) (take m children) ≡ scanned t roots
  pub flat_ok : FlatOk (class_count t) (take n flat) (take n heads) (take (n + 1) starts) (take m children)
  pub below : (i : ℕ) → i < n → get_or (take n order) i 0 < length t.rows
  pub arity : (i : ℕ) → i < n → get_or (take (n + 1) starts) (i + 1) 0 ≤ get_or (take (n + 1) starts) i 0 + 8

-- `Flattened` holds of every table that stands in the arrays.
abbrev pub Flattens :
    ℕ → ℕ → ℕ → List ℕ →
    List ℕ → List ℕ → List ℕ → List ℕ → List ℕ → List ℕ →
    List ℕ → List ℕ → List ℕ → List ℕ → List ℕ → List ℕ →
    ℕ → ℕ → ℕ → List ℕ → List ℕ → List ℕ → List ℕ → List ℕ → Type 0
Flattens sorts functions rows roots kinds classes declared costs unextractable hidden outputs arities arguments
    row_functions
    subsumed cells n m w order flat heads starts children =
    (t : Table) →
    Stands sorts functions rows kinds classes declared costs unextractable hidden outputs arities arguments row_functions
    subsumed cells t →
    Flattened t roots n m w order flat heads starts children
