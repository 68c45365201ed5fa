-- Room for a term: document 01, 'Refusal numbers', 13, "new terms or names exceed the store's room (its lent lengths,
-- at most 1,024 and 128)". It speaks of stores and terms alone, and of no way to build one. Assumes nothing:
-- definitions.
use Rattle.std.specs.Prelude.{ℕ, ◌≤◌, ◌<◌, ◌≡◌, true}
use Rattle.term_rules.specs.Lent.{Store, symbol_at, term_room, symbol_room}
use Rattle.term_rules.specs.WellFormed.{well_formed}
use Rattle.term_rules.specs.Nodes.{node_at, Tree as Term, Means}

-- One of the store's numbers means the term.
pub record Holds (s : Store) (u : Term) : Type 0 where
  pub place : ℕ
  pub below : place < s.terms
  pub means : Means s place u

-- What the first store may become in its room: a well-formed store with the same room for terms and for names, in
-- which every term and every name of the first, also one that no term has, keeps its number. What stands past the
-- counts may be anything.
pub record Fits (s s' : Store) : Type 0 where
  pub formed : well_formed s' ≡ true
  pub more : s.terms ≤ s'.terms
  pub nodes : (i : ℕ) → i < s.terms → node_at s' i ≡ node_at s i
  pub more_names : s.symbols ≤ s'.symbols
  pub names : (k : ℕ) → k < s.symbols → symbol_at s' k ≡ symbol_at s k
  pub same_term_room : term_room s' ≡ term_room s
  pub same_name_room : symbol_room s' ≡ symbol_room s

-- "given room in the store": some such store holds the term,
pub record HasRoom (s : Store) (u : Term) : Type 0 where
  pub store : Store
  pub fits : Fits s store
  pub holds : Holds store u

-- or none does: "new terms or names exceed the store's room".
abbrev pub NoRoomFor : Store → Term → Type 0
NoRoomFor s u = (s' : Store) → Fits s s' → Holds s' u → ⊥
