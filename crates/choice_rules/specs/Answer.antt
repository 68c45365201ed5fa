-- The three answers of demand 3, and when each is right. Assumes nothing: definitions.
use Rattle.std.specs.Prelude.{◌≡◌, cond, List, [], ℕ, ◌<◌, ◌≤◌, get_or, ltb}
use Rattle.choice_rules.specs.Rows.{Row, class}
use Rattle.choice_rules.specs.Deriving.{Tree, Derives, tree_cost, Once}

pub data Answer : Type 0 where
  no_term : Answer
  too_dear : Answer
  best : ℕ → Answer

-- "a deriving term comes back; its exact cost is the number reported; none is cheaper; and down its chosen rows
-- no class is met twice on a path".
pub record Best (rows : List Row) (c v : ℕ) (t : Tree) : Type 0 where
  pub derives : Derives rows t (class c)
  pub exact : tree_cost rows t ≡ v
  pub least : (u : Tree) → Derives rows u (class c) → v ≤ tree_cost rows u
  pub once : Once rows [] t

-- "If none derives the root, .. NoTerm. If some do but each costs 2^64-1 or more in exact whole numbers, .. TooDear.
-- Otherwise" a best one.
abbrev pub Right : ℕ → List Row → ℕ → Answer → Type 0
Right M rows c no_term = (t : Tree) → Derives rows t (class c) → ⊥
Right M rows c too_dear =
    ((t : Tree) × Derives rows t (class c)) × ((u : Tree) → Derives rows u (class c) → M ≤ tree_cost rows u)
Right M rows c (best v) = (v < M) × ((t : Tree) × Best rows c v t)

-- What costs and ranks say of class c: no cost, a saturated cost, or a cost.
unfoldable pub answer_of : ℕ → List ℕ → List ℕ → ℕ → Answer
answer_of M costs ranks c =
    cond (ltb 0 (get_or ranks c 0)) (cond (ltb (get_or costs c 0) M) (best (get_or costs c 0)) too_dear) no_term
