-- The rows of a class that have a cost, and each row's cost, over flat lists: document 01, 'Costs and choice', last
-- paragraph. Assumes nothing: definitions.
use Rattle.std.specs.Prelude.{◌≡◌, Bool, ◌&&◌, List, map, ℕ, ◌+◌, ◌<◌, ◌≤◌, min, eqb, length, get_or}
use Rattle.choice_rules.specs.Rows.{all_of, sum_of}
use Rattle.choice_rules.specs.Run.{priced, child_cost}
use Rattle.price_passes.specs.Flat.{top, child_of, part_of, ChildrenIn}

-- k rows over n classes have their children in the lists.
pub record PartsIn (n k : ℕ) (starts children : List ℕ) : Type 0 where
  pub few : k ≤ 1024
  pub starts_long : k < length starts
  pub rise : (i : ℕ) → i < k → get_or starts i 0 ≤ get_or starts (i + 1) 0
  pub inside : (i : ℕ) → i < k → get_or starts (i + 1) 0 ≤ length children
  pub kids : ChildrenIn n children

-- The cost of row i.
abbrev pub price_of : List ℕ → List ℕ → List ℕ → List ℕ → ℕ → ℕ
price_of costs heads starts children i =
    min top (get_or heads i 0 + sum_of (child_cost costs) (map child_of (part_of starts children i)))

-- Each of the first k rows has its cost in its place.
abbrev pub Prices : List ℕ → List ℕ → List ℕ → List ℕ → ℕ → List ℕ → Type 0
Prices costs heads starts children k prices =
    (i : ℕ) → i < k → get_or prices i 0 ≡ price_of costs heads starts children i

-- "every usable row of it with a cost": row i is one of class c.
abbrev pub is_candidate : List ℕ → List ℕ → List ℕ → List ℕ → ℕ → ℕ → Bool
is_candidate ranks outputs starts children c i =
    eqb (get_or outputs i 0) c && all_of (priced ranks) (map child_of (part_of starts children i))
