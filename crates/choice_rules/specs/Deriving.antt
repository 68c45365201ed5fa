-- Deriving trees and their exact cost: document 00, demand 3. Assumes nothing: definitions.
use Rattle.std.specs.Prelude.{◌≡◌, List, [], ◌∷◌, ◌≢◌, ℕ, ◌+◌, ◌<◌, ◌≤◌, length}
use Rattle.choice_rules.specs.Rows.{Child, literal, class, Row, row_at}

-- A finite tree: a literal index, or a row's number with a tree for each child.
mutual
  pub data Tree : Type 0 where
    leaf : ℕ → Tree
    node : ℕ → Forest → Tree

  pub data Forest : Type 0 where
    none : Forest
    more : Tree → Forest → Forest

-- "call a term deriving if it is finite and built from rows": a class is derived by a row with that output
-- and a forest for its children.
unfoldable mutual
  pub Derives : List Row → Tree → Child → Type 0
  Derives rows (leaf i) (literal j) = i ≡ j
  Derives rows (leaf i) (class c) = ⊥
  Derives rows (node i f) (literal j) = ⊥
  Derives rows (node i f) (class c) =
      (i < length rows) × ((row_at rows i).output ≡ c) × DeriveAll rows f (row_at rows i).children

  pub DeriveAll : List Row → Forest → List Child → Type 0
  DeriveAll rows none [] = Unit {0}
  DeriveAll rows none (k ∷ ks) = ⊥
  DeriveAll rows (more t f) [] = ⊥
  DeriveAll rows (more t f) (k ∷ ks) = Derives rows t k × DeriveAll rows f ks

-- The exact cost in whole numbers: a literal costs 1, a row its head cost and its children's.
unfoldable mutual
  pub tree_cost : List Row → Tree → ℕ
  tree_cost rows (leaf i) = 1
  tree_cost rows (node i f) = (row_at rows i).head + forest_cost rows f

  pub forest_cost : List Row → Forest → ℕ
  forest_cost rows none = 0
  forest_cost rows (more t f) = tree_cost rows t + forest_cost rows f

-- c is none of the classes met.
abbrev pub NotIn : ℕ → List ℕ → Type 0
NotIn c [] = Unit {0}
NotIn c (x ∷ xs) = (c ≢ x) × NotIn c xs

-- "down its chosen rows no class is met twice on a path": none of those met above comes again.
unfoldable mutual
  pub Once : List Row → List ℕ → Tree → Type 0
  Once rows met (leaf i) = Unit {0}
  Once rows met (node i f) = NotIn (row_at rows i).output met × OnceAll rows ((row_at rows i).output ∷ met) f

  pub OnceAll : List Row → List ℕ → Forest → Type 0
  OnceAll rows met none = Unit {0}
  OnceAll rows met (more t f) = Once rows met t × OnceAll rows met f

-- v is the least exact cost of a tree that derives class c.
pub record Least (rows : List Row) (c v : ℕ) : Type 0 where
  pub tree : Tree
  pub derives : Derives rows tree (class c)
  pub exact : tree_cost rows tree ≡ v
  pub least : (u : Tree) → Derives rows u (class c) → v ≤ tree_cost rows u
