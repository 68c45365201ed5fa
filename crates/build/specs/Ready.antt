-- What the builder asks of its arguments, and how its answers are read. Assumes nothing: these are definitions.
use Rattle.std.specs.Prelude.{ℕ, ◌+◌, ◌*◌, ◌-◌, ◌≤◌, ◌<◌, ◌≡◌, true, List, [], ◌∷◌, length, get_or, Option, Some, None, ℤ}
use Rattle.name.specs.Name.{valid}
use Rattle.name.specs.Entries.{length_at, name_at}
use Rattle.table_layout.specs.Rows.{HasRow, function_at, count_at, children_at}
use Rattle.term_rules.specs.Lent.{Store}
use Rattle.term_rules.specs.WellFormed.{well_formed}
use Rattle.build.specs.Plan.{Child, class, value, Plan, plan_of}
use Rattle.build.specs.Building.{State, state, Out, done, no_more, build_in}
use Rattle.build.specs.Standing.{Tracks}

-- a child class has a rank below r
abbrev pub Lower : (ℕ → ℕ) → ℕ → Child → Type 0
Lower rank r (class c) = (0 < rank c) × (rank c < r)
Lower rank r (value z) = Unit

abbrev pub AllLower : (ℕ → ℕ) → ℕ → List Child → Type 0
AllLower rank r [] = Unit
AllLower rank r (x ∷ xs) = Lower rank r x × AllLower rank r xs

-- every class that has a rank has a valid name and at most eight children, and the rank falls to each child class
pub record Ranked (p : Plan) (rank : ℕ → ℕ) : Type 0 where
  pub named : (c : ℕ) → 0 < rank c → valid (p.name c) ≡ true
  pub few : (c : ℕ) → 0 < rank c → length (p.children c) ≤ 8
  pub lower : (c : ℕ) → 0 < rank c → AllLower rank (rank c) (p.children c)

-- the name of function f stands in its place
pub record Label (labels : List ℕ) (f : ℕ) : Type 0 where
  pub entry : f * 32 + 32 ≤ length labels
  pub short : length_at labels f ≤ 31
  pub named : valid (name_at labels f) ≡ true

-- a child number that can be built: a class of a rank below r, or a literal of the table
pub record ChildBelow (rank : ℕ → ℕ) (r : ℕ) (values : List ℤ) (x : ℕ) : Type 0 where
  pub ranked : x < 512 → 0 < rank x
  pub falls : x < 512 → rank x < r
  pub known : 512 ≤ x → x - 512 < length values

-- the same of class c in packed rows: its row, all of its numbers in their places
pub record Planned (rank : ℕ → ℕ) (rows edges labels : List ℕ) (values : List ℤ) (c : ℕ) : Type 0 where
  pub place : c < length edges
  pub whole : HasRow rows (get_or edges c 0)
  pub label : Label labels (function_at rows (get_or edges c 0))
  pub few : count_at rows (get_or edges c 0) ≤ 8
  pub child :
      (j : ℕ) →
      j < length (children_at rows (get_or edges c 0)) →
      ChildBelow rank (rank c) values (get_or (children_at rows (get_or edges c 0)) j 0)

-- what building class c asks: ranks, none of which is above the level for c, by which every class with a rank has a
-- row; and a memo with a place for each that tells the truth of a well-formed store
pub record Ready
    (rows edges labels : List ℕ) (values : List ℤ) (me : List ℕ) (s : Store) (level c : ℕ) : Type 0 where
  pub rank : ℕ → ℕ
  pub planned : (k : ℕ) → 0 < rank k → Planned rank rows edges labels values k
  pub inside : (k : ℕ) → 0 < rank k → k < length me
  pub tracks : Tracks (plan_of rows edges labels values) (state me s)
  pub ranked : 0 < rank c
  pub enough : rank c ≤ level

-- what a class's own term asks: a function with a name, and children in the store
pub record OwnReady (labels me : List ℕ) (s : Store) (c f : ℕ) (ks : List ℕ) : Type 0 where
  pub entry : f * 32 + 32 ≤ length labels
  pub short : length_at labels f ≤ 31
  pub named : valid (name_at labels f) ≡ true
  pub few : length ks ≤ 8
  pub below : (j : ℕ) → j < length ks → get_or ks j 0 < s.terms
  pub memo : c < length me
  pub formed : well_formed s ≡ true

-- an answer, with the memo and the store as they were left
abbrev pub seen : Option ℕ → List ℕ → Store → Out ℕ
seen (Some t) me s = done t (state me s)
seen None me s = no_more me s

-- the answer is the definition's, at every depth that is enough
abbrev pub Exact : Plan → ℕ → State → ℕ → Out ℕ → Type 0
Exact p rank s c o = (f : ℕ) → rank < f → build_in p f s c ≡ o
