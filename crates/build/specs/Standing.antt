-- What stands in the store: demand 3 speaks of the term in the returned store. Assumes nothing: these are definitions.
use Rattle.std.specs.Prelude.{ℕ, ◌-◌, ◌<◌, ◌≡◌, true, List, get_or, ℤ}
use Rattle.term_rules.specs.Lent.{Store}
use Rattle.term_rules.specs.WellFormed.{well_formed}
use Rattle.term_rules.specs.Nodes.{Tree, Means}
use Rattle.term_rules.specs.Growing.{Grows}
use Rattle.build.specs.Plan.{Child, class, Plan, ChildTree}
use Rattle.build.specs.Building.{State}

-- term t of the store is the tree of the child
pub record Stands (p : Plan) (s : Store) (x : Child) (t : ℕ) : Type 0 where
  pub below : t < s.terms
  pub tree : Tree
  pub of : ChildTree p x tree
  pub means : Means s t tree

-- the store is well formed, and every class that the memo names stands in it
pub record Tracks (p : Plan) (s : State) : Type 0 where
  pub formed : well_formed s.lent ≡ true
  pub memo : (c : ℕ) → 0 < get_or s.memo c 0 → Stands p s.lent (class c) (get_or s.memo c 0 - 1)

-- term t was built
pub record Builds (p : Plan) (s : State) (x : Child) (t : ℕ) (s' : State) : Type 0 where
  pub grows : Grows s.lent s'.lent
  pub tracks : Tracks p s'
  pub stands : Stands p s'.lent x t

-- building ended early: the lists are left as those of a store that grew from the first
pub record Stuck (s : Store) (rs : List ℕ) (ls : List ℤ) (ns : List ℕ) : Type 0 where
  pub last : Store
  pub grows : Grows s last
  pub records : rs ≡ last.records
  pub literals : ls ≡ last.literals
  pub names : ns ≡ last.names
