-- Rows in another order, and trees over them. Assumes nothing: definitions.
use Rattle.std.specs.Prelude.{◌≡◌, Bool, true, List, map, ℕ, ◌<◌, length, get_or}
use Rattle.choice_rules.specs.Rows.{Row, row_at, child_at, class}
use Rattle.choice_rules.specs.Deriving.{Tree, leaf, node, Forest, none, more}

-- The rows of the numbers in the order.
unfoldable pub in_order : List Row → List ℕ → List Row
in_order rows order = map (row_at rows) order

-- A tree over the rows in an order, with the rows' own numbers.
unfoldable mutual
  pub renumber : List ℕ → Tree → Tree
  renumber order (leaf i) = leaf i
  renumber order (node i f) = node (get_or order i 0) (renumber_in order f)

  pub renumber_in : List ℕ → Forest → Forest
  renumber_in order none = none
  renumber_in order (more t f) = more (renumber order t) (renumber_in order f)

-- The order has usable rows alone, and each usable row whose output is in a set of classes that is closed under the
-- children of such rows.
pub record Covers (rows : List Row) (usable : ℕ → Bool) (order : List ℕ) (In : ℕ → Type 0) : Type 0 where
  pub known : (i : ℕ) → i < length order → get_or order i 0 < length rows
  pub usable_ones : (i : ℕ) → i < length order → usable (get_or order i 0) ≡ true
  pub found :
      (r : ℕ) →
      r < length rows →
      usable r ≡ true →
      In (row_at rows r).output →
      (i : ℕ) × ((i < length order) × (get_or order i 0 ≡ r))
  pub closed :
      (r : ℕ) →
      r < length rows →
      usable r ≡ true →
      In (row_at rows r).output →
      (j : ℕ) →
      j < length (row_at rows r).children →
      (d : ℕ) →
      child_at (row_at rows r) j ≡ class d →
      In d
