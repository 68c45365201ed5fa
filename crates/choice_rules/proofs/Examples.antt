-- What document 01, 'Slips to shut out', says of an edge's child of equal rank, by computation. Assumes nothing.
use mathlib.Core.Path.{◌≡◌, refl, subst}
use mathlib.Core.Bool.{Bool, ◌&&◌}
use mathlib.Core.List.{List, [], ◌∷◌}
use Prim.Native.Nat.{ℕ, ◌-◌, ◌^◌}
use lib.ListN.{get_or}
use lib.Dec.{leb, eqb}
use Rattle.choice_rules.specs.Rows.{Child, class, Row, row_at, sum_of, all_of}
use Rattle.choice_rules.specs.Deriving.{Tree, leaf, node, Forest, none, more}
use Rattle.choice_rules.specs.Run.{State, child_cost, priced, row_priced, row_cost, improves, relax, pass, run_from, run}
use Rattle.choice_rules.specs.Edges.{child_rank, first_row, Chosen, ChosenAll}

-- costs saturate at 2^64-1
abbrev M : ℕ
M = 2 ^ 64 - 1

abbrev row : ℕ → List Child → ℕ → Row
row o ks h = record { output = o; children = ks; head = h }

-- Wrap(0)->0 cost 0, then Leaf()->0
abbrev wrap-leaf : List Row
wrap-leaf = row 0 (class 0 ∷ []) 0 ∷ row 0 [] 1 ∷ []

-- "Letting an edge's child have equal rank": Wrap is then the edge of its own class ..
unfoldable pub slack_edge : State → ℕ → Row → Bool
slack_edge s c r =
    eqb r.output c
    && (row_priced s.ranks r
    && (eqb (row_cost M s.costs r) (get_or s.costs c 0)
    && all_of (λ k. leb (child_rank s.ranks k) (get_or s.ranks c 0)) r.children))

pub slack-edge-wraps : first_row (slack_edge (run M wrap-leaf 1).state 0) wrap-leaf ≡ 0
unfolding slack_edge run run_from pass relax improves row_cost sum_of all_of priced child_cost first_row child_rank
slack-edge-wraps = refl

-- .. and no finite tree follows such edges: the zero-cost loop returns
mutual
  unfolding Chosen

  pub no-slack-tree : (t : Tree) → Chosen wrap-leaf (λ c. 0) t (class 0) → ⊥
  no-slack-tree (leaf i) d = d
  no-slack-tree (node i f) d =
      no-slack-forest f (subst (λ (x : ℕ). ChosenAll wrap-leaf (λ c. 0) f (row_at wrap-leaf x).children) d.0 d.1)

  no-slack-forest : (f : Forest) → ChosenAll wrap-leaf (λ c. 0) f (class 0 ∷ []) → ⊥
  no-slack-forest none d = d
  no-slack-forest (more t f) d = no-slack-tree t d.0
