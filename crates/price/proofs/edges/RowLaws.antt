-- Whether a row is an edge, by the ways of the code. Assumes nothing.
use mathlib.Core.Path.{◌≡◌, refl}
use mathlib.Core.Bool.{Bool, true, false}
use mathlib.Core.List.{List, map}
use Prim.Native.Nat.{ℕ, ◌+◌, min}
use borrow.Author.Tests.{eq-eqb, ne_eqb}
use lib.ListN.{get_or}
use Rattle.choice_rules.specs.Rows.{all_of, sum_of}
use Rattle.choice_rules.specs.Run.{priced, child_cost, row_cost}
use Rattle.choice_rules.specs.Edges.{below, is_edge}
use Rattle.price_passes.specs.Flat.{top, child_of, row_of}

module _ (costs ranks kids : List ℕ) (output head : ℕ) where
  abbrev edge : Bool
  edge = is_edge top costs ranks output (row_of output head kids)

  pub edge-when-unpriced : all_of (priced ranks) (map child_of kids) ≡ false → false ≡ edge
  unfolding is_edge
  edge-when-unpriced k = rw (eq-eqb output output refl, k)

  module _ (w : ℕ) (k : all_of (priced ranks) (map child_of kids) ≡ true)
      (we : w ≡ min top (head + sum_of (child_cost costs) (map child_of kids))) where
    pub edge-when-dearer : (w ≡ get_or costs output 0 → ⊥) → false ≡ edge
    unfolding is_edge row_cost
    edge-when-dearer n = rw (eq-eqb output output refl, k, ← we, ne_eqb w (get_or costs output 0) n)

    pub edge-when-exact : w ≡ get_or costs output 0 → all_of (below (get_or ranks output 0) ranks) (map child_of kids) ≡ edge
    unfolding is_edge row_cost
    edge-when-exact q = rw (eq-eqb output output refl, k, ← we, eq-eqb w (get_or costs output 0) q)
