-- What a store keeps while terms are added: document 01, 'Terms'. Assumes nothing: these are definitions.
use Rattle.std.specs.Prelude.{ℕ, ◌≤◌, ◌<◌, ◌≡◌, true, List, length, get_or, drop, ℤ}
use Rattle.name.specs.Name.{valid}
use Rattle.name.specs.Entries.{entries_length}
use Rattle.term_rules.specs.Lent.{Store, records_length}
use Rattle.term_rules.specs.WellFormed.{well_formed}
use Rattle.term_rules.specs.Nodes.{Node, literal, variable, application, node_at, Tree, Means}
use Rattle.term_rules.specs.Adding.{Adds, at, no_room}

-- Only the places of 1,024 records and 128 names can be written: what is lent past them stays.
pub record Beyond (s : Store) (rs : List ℕ) (ls : List ℤ) (ns : List ℕ) : Type 0 where
  pub records : drop (records_length 1024) rs ≡ drop (records_length 1024) s.records
  pub literals : drop 1024 ls ≡ drop 1024 s.literals
  pub names : drop (entries_length 128) ns ≡ drop (entries_length 128) s.names

-- the second store has the terms of the first, under their numbers, and maybe more
pub record Grows (s s' : Store) : Type 0 where
  pub formed : well_formed s' ≡ true
  pub more : s.terms ≤ s'.terms
  pub nodes : (i : ℕ) → i < s.terms → node_at s' i ≡ node_at s i
  pub means : (i : ℕ) (t : Tree) → i < s.terms → Means s i t → Means s' i t
  pub beyond : Beyond s s'.records s'.literals s'.names

-- a node that a store can hold: a valid name, at most eight children, each in the store
abbrev pub Fit : Store → Node → Type 0
Fit s (literal z) = Unit
Fit s (variable n) = valid n ≡ true
Fit s (application n ks) = (valid n ≡ true) × (length ks ≤ 8) × ((j : ℕ) → j < length ks → get_or ks j 0 < s.terms)

-- the node is term t of the second store
pub record Takes (s : Store) (node : Node) (t : ℕ) (s' : Store) : Type 0 where
  pub grows : Grows s s'
  pub below : t < s'.terms
  pub is : node_at s' t ≡ node

-- what adding the node gives
abbrev pub Gives : Store → Node → Adds → Type 0
Gives s node (at t s') = Takes s node t s'
Gives s node no_room = Unit
