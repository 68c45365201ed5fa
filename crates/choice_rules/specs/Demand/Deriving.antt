-- Demand 3 of document 00, over all rows of a table, numbered as in the file. Assumes nothing: definitions.
use Rattle.std.specs.Prelude.{◌≡◌, Bool, true, List, ℕ, ◌<◌, ◌≤◌}
use Rattle.choice_rules.specs.Rows.{Row, class}
use Rattle.choice_rules.specs.Deriving.{Tree, leaf, node, Forest, none, more, Derives, tree_cost}
use Rattle.choice_rules.specs.Answer.{Answer, no_term, too_dear, best}

-- "built from rows neither subsumed nor of barred functions": every row of the tree is usable.
unfoldable mutual
  pub AllUsable : (ℕ → Bool) → Tree → Type 0
  AllUsable usable (leaf i) = Unit {0}
  AllUsable usable (node r f) = (usable r ≡ true) × AllUsableIn usable f

  pub AllUsableIn : (ℕ → Bool) → Forest → Type 0
  AllUsableIn usable none = Unit {0}
  AllUsableIn usable (more t f) = AllUsable usable t × AllUsableIn usable f

-- "call a term deriving if it is finite and built from rows neither subsumed nor of barred functions": it derives
-- class c.
pub record Deriving (rows : List Row) (usable : ℕ → Bool) (c : ℕ) (t : Tree) : Type 0 where
  pub derives : Derives rows t (class c)
  pub all_usable : AllUsable usable t

-- "a deriving term ..; its exact cost is the number reported; none is cheaper"
pub record Cheapest (rows : List Row) (usable : ℕ → Bool) (c v : ℕ) (t : Tree) : Type 0 where
  pub is_deriving : Deriving rows usable c t
  pub exact : tree_cost rows t ≡ v
  pub least : (u : Tree) → Deriving rows usable c u → v ≤ tree_cost rows u

-- "If none derives the root, and only then, the answer is NoTerm. If some do but each costs 2^64-1 or more in exact
-- whole numbers, and only then, TooDear. Otherwise .. a deriving term comes back". M is 2^64-1.
abbrev pub Answered : ℕ → List Row → (ℕ → Bool) → ℕ → Answer → Type 0
Answered M rows usable c no_term = (t : Tree) → Deriving rows usable c t → ⊥
Answered M rows usable c too_dear =
    ((t : Tree) × Deriving rows usable c t) × ((u : Tree) → Deriving rows usable c u → M ≤ tree_cost rows u)
Answered M rows usable c (best v) = (v < M) × ((t : Tree) × Cheapest rows usable c v t)
