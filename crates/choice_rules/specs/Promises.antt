-- What the run over any rows whose outputs are among n classes promises, for any number M of saturation: demand 3 of
-- document 00, and document 01, 'Costs and choice'. Assumes nothing: statements, kept by `promises` of proofs/Promises.antt.
use Rattle.std.specs.Prelude.{◌≡◌, false, List, ◌↔◌, ℕ, ◌+◌, ◌<◌, ◌≤◌, get_or}
use Rattle.choice_rules.specs.Rows.{Row, class, row_at, Within}
use Rattle.choice_rules.specs.Deriving.{Tree, Derives, tree_cost}
use Rattle.choice_rules.specs.Run.{State, Run, blank, run_from, run, FirstStill, costed}
use Rattle.choice_rules.specs.Edges.{is_edge, edge_of, Edge, Chosen}
use Rattle.choice_rules.specs.Answer.{Answer, no_term, too_dear, best, Best, Right, answer_of}

-- The state that a run over n classes leaves.
abbrev pub ended : ℕ → List Row → ℕ → State
ended M rows n = (run M rows n).state

-- What it says of a class, and a class's edge.
abbrev pub told : ℕ → List Row → ℕ → ℕ → Answer
told M rows n c = answer_of M (ended M rows n).costs (ended M rows n).ranks c

abbrev pub edge_in : ℕ → List Row → ℕ → ℕ → ℕ
edge_in M rows n c = edge_of M (ended M rows n).costs (ended M rows n).ranks rows c

pub record Promises (M : ℕ) (rows : List Row) (n : ℕ) (within : Within n rows) : Type 0 where
  -- the run ends with the first pass that changes nothing, and counts it
  pub first_still : FirstStill M rows (blank n) (run M rows n)
  -- whatever else ends there is the run
  pub run_unique : (r : Run) → FirstStill M rows (blank n) r → r ≡ run M rows n
  -- more fuel changes nothing
  pub any_fuel : (fuel : ℕ) → n < fuel → run_from M rows fuel (blank n) 0 ≡ run M rows n
  -- "at most one more than the number of classes that end with a cost"
  pub few_passes : (run M rows n).passes ≤ costed (ended M rows n).ranks + 1
  -- "If none derives the root, and only then, the answer is NoTerm"
  pub no_term : (c : ℕ) → (told M rows n c ≡ no_term) ↔ ((t : Tree) → Derives rows t (class c) → ⊥)
  -- "If some do but each costs 2^64-1 or more in exact whole numbers, and only then, TooDear"
  pub too_dear : (c : ℕ) → (told M rows n c ≡ too_dear)
      ↔ (((t : Tree) × Derives rows t (class c)) × ((u : Tree) → Derives rows u (class c) → M ≤ tree_cost rows u))
  -- "Otherwise" the tree that the edges choose is a best one, at the cost reported
  pub cheapest : (c v : ℕ) → told M rows n c ≡ best v
      → (t : Tree) × Chosen rows (edge_in M rows n) t (class c) × Best rows c v t
  -- the edges choose one tree for a class
  pub chosen_unique : (edge : ℕ → ℕ) (c : ℕ) (t u : Tree) → Chosen rows edge t (class c)
      → Chosen rows edge u (class c) → t ≡ u
  -- no other answer is right
  pub right : (c : ℕ) → Right M rows c (told M rows n c)
  pub right_unique : (c : ℕ) (a b : Answer) → Right M rows c a → Right M rows c b → a ≡ b
  -- every class with a cost below M has its edge, and every child under it
  pub edge : (c : ℕ) → 0 < get_or (ended M rows n).ranks c 0 → get_or (ended M rows n).costs c 0 < M
      → Edge M (ended M rows n).costs (ended M rows n).ranks rows c (edge_in M rows n c)
  -- and no row before it can be one
  pub edge_first : (c j : ℕ) → j < edge_in M rows n c
      → is_edge M (ended M rows n).costs (ended M rows n).ranks c (row_at rows j) ≡ false
