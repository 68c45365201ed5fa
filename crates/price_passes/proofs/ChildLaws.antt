-- A child's number, by its two kinds. Assumes nothing.
use mathlib.Core.Path.{◌≡◌}
use mathlib.Core.Bool.{true}
use mathlib.Core.List.{List}
use Prim.Native.Nat.{ℕ, ◌-◌, ◌<◌, ◌≤◌}
use borrow.Author.Tests.{lt-ltb, le-ltb}
use lib.ListN.{get_or}
use lib.Dec.{ltb}
use Rattle.choice_rules.specs.Rows.{literal, class}
use Rattle.choice_rules.specs.Run.{priced, child_cost}
use Rattle.choice_rules.specs.Edges.{child_rank}
use Rattle.price_passes.specs.Flat.{child_of}

module _ (x : ℕ) where
  pub child-when-class : x < 512 → child_of x ≡ class x
  unfolding child_of
  child-when-class h = rw (lt-ltb x 512 h)

  pub child-when-literal : 512 ≤ x → child_of x ≡ literal (x - 512)
  unfolding child_of
  child-when-literal h = rw (le-ltb x 512 h)

  module _ (l : List ℕ) where
    pub priced-of-literal : 512 ≤ x → true ≡ priced l (child_of x)
    unfolding priced
    priced-of-literal h = rw (child-when-literal h)

    pub priced-of-class : x < 512 → ltb 0 (get_or l x 0) ≡ priced l (child_of x)
    unfolding priced
    priced-of-class h = rw (child-when-class h)

    pub cost-of-literal : 512 ≤ x → 1 ≡ child_cost l (child_of x)
    unfolding child_cost
    cost-of-literal h = rw (child-when-literal h)

    pub cost-of-class : x < 512 → get_or l x 0 ≡ child_cost l (child_of x)
    unfolding child_cost
    cost-of-class h = rw (child-when-class h)

    pub rank-of-literal : 512 ≤ x → 0 ≡ child_rank l (child_of x)
    unfolding child_rank
    rank-of-literal h = rw (child-when-literal h)

    pub rank-of-class : x < 512 → get_or l x 0 ≡ child_rank l (child_of x)
    unfolding child_rank
    rank-of-class h = rw (child-when-class h)
