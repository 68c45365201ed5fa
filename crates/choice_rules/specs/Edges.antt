-- A class's edge, and the tree that edges choose: document 01, 'Costs and choice', third paragraph.
-- Assumes nothing: definitions.
use Rattle.std.specs.Prelude.{◌≡◌, Bool, true, false, ◌&&◌, List, [], ◌∷◌, ℕ, suc, ◌<◌, length, get_or, ltb, eqb}
use Rattle.choice_rules.specs.Rows.{Child, literal, class, Row, row_at, child_at, all_of, tabulate}
use Rattle.choice_rules.specs.Deriving.{Tree, leaf, node, Forest, none, more}
use Rattle.choice_rules.specs.Run.{row_priced, row_cost}

-- "base children have rank 0".
unfoldable pub child_rank : List ℕ → Child → ℕ
child_rank ranks (literal i) = 0
child_rank ranks (class c) = get_or ranks c 0

-- Whether a child's rank is strictly below b.
abbrev pub below : ℕ → List ℕ → Child → Bool
below b ranks k = ltb (child_rank ranks k) b

-- A row of class c "with exactly its final cost and all child ranks strictly below its own".
unfoldable pub is_edge : ℕ → List ℕ → List ℕ → ℕ → Row → Bool
is_edge M costs ranks c r =
    eqb r.output c
    && (row_priced ranks r
    && (eqb (row_cost M costs r) (get_or costs c 0)
    && all_of (below (get_or ranks c 0) ranks) r.children))

-- The number of the first row with p; the number of rows where there is none.
unfoldable pub first_row : (Row → Bool) → List Row → ℕ
first_row p [] = 0
first_row p (r ∷ rs) = elim (p r) [ true ↦ 0 | false ↦ suc (first_row p rs) ]

-- "A class's edge is the first row in the same order".
abbrev pub edge_of : ℕ → List ℕ → List ℕ → List Row → ℕ → ℕ
edge_of M costs ranks rows c = first_row (is_edge M costs ranks c) rows

-- The edges of all classes.
abbrev pub edges_of : ℕ → List ℕ → List ℕ → List Row → List ℕ
edges_of M costs ranks rows = tabulate (edge_of M costs ranks rows) (length ranks)

-- A child under a class of rank b: a literal, or a class with a cost below M and a lower rank.
abbrev pub Under : ℕ → List ℕ → List ℕ → ℕ → Child → Type 0
Under M costs ranks b (literal i) = Unit {0}
Under M costs ranks b (class d) = (0 < get_or ranks d 0) × (get_or ranks d 0 < b) × (get_or costs d 0 < M)

-- Class c has row i for an edge: a row of it, at exactly its cost, and every child of it is under c.
pub record Edge (M : ℕ) (costs ranks : List ℕ) (rows : List Row) (c i : ℕ) : Type 0 where
  pub known : i < length rows
  pub output : (row_at rows i).output ≡ c
  pub cost : row_cost M costs (row_at rows i) ≡ get_or costs c 0
  pub under :
      (j : ℕ) → j < length (row_at rows i).children → Under M costs ranks (get_or ranks c 0) (child_at (row_at rows i) j)

-- The tree that edges choose: each class by its edge, each child in turn.
unfoldable mutual
  pub Chosen : List Row → (ℕ → ℕ) → Tree → Child → Type 0
  Chosen rows edge (leaf i) (literal j) = i ≡ j
  Chosen rows edge (leaf i) (class c) = ⊥
  Chosen rows edge (node i f) (literal j) = ⊥
  Chosen rows edge (node i f) (class c) = (i ≡ edge c) × ChosenAll rows edge f (row_at rows i).children

  pub ChosenAll : List Row → (ℕ → ℕ) → Forest → List Child → Type 0
  ChosenAll rows edge none [] = Unit {0}
  ChosenAll rows edge none (k ∷ ks) = ⊥
  ChosenAll rows edge (more t f) [] = ⊥
  ChosenAll rows edge (more t f) (k ∷ ks) = Chosen rows edge t k × ChosenAll rows edge f ks
