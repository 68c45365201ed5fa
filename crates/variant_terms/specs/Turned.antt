-- The terms of rows in turn, over packed rows, and all or nothing. Document 01, 'Costs and choice'. Assumes nothing:
-- definitions.
use Rattle.std.specs.Prelude.{ℕ, ◌<◌, ◌≤◌, ◌≡◌, true, List, [], ◌∷◌, ◌++◌, ℤ, length, get_or, replicate, Option, Some, None}
use Rattle.name.specs.Entries.{name_at}
use Rattle.term_rules.specs.Lent.{Store}
use Rattle.term_rules.specs.WellFormed.{well_formed}
use Rattle.table_layout.specs.Rows.{HasRow, function_at, count_at, children_at}
use Rattle.build.specs.Plan.{Child, Plan}
use Rattle.build.specs.Building.{State, state, Out, done, full, no_more, children_in, build_in}
use Rattle.build.specs.Standing.{Stuck}
use Rattle.build.specs.Ready.{Planned}
use Rattle.answer_rules.specs.Variants.{own_variant}
use Rattle.variant_terms.specs.Rows.{Deep, Builder, RowIn}

-- The name of row i's function.
abbrev pub name_in : List ℕ → List ℕ → ℕ → List ℕ
name_in labels rows i = name_at labels (function_at rows i)

-- The terms of rows in turn, after those that have the numbers ts. d bounds the depth.
unfoldable pub rows_in : Plan → ℕ → (ℕ → List ℕ) → (ℕ → List Child) → State → List ℕ → List ℕ → Out (List ℕ)
rows_in p d name kids s ts [] = done ts s
rows_in p d name kids s ts (i ∷ rows) =
    elim (own_variant (name i) (children_in (build_in p d) s [] (kids i))) [
      | done u s' ↦ rows_in p d name kids s' (ts ++ (u ∷ [])) rows
      | full me rs ls ns ↦ full me rs ls ns
    ]

-- Row i stands in the packed rows and can be built.
pub record Listed (rank : ℕ → ℕ) (rows ranks labels : List ℕ) (values : List ℤ) (i : ℕ) : Type 0 where
  pub whole : HasRow rows i
  pub few : count_at rows i ≤ 8
  pub is : RowIn rank ranks labels values (function_at rows i) (children_at rows i)

-- So does each row of a list.
abbrev pub AllListed : (ℕ → ℕ) → List ℕ → List ℕ → List ℕ → List ℤ → List ℕ → Type 0
AllListed rank rows ranks labels values list =
    (j : ℕ) → j < length list → Listed rank rows ranks labels values (get_or list j 0)

-- Both with what building asks, by some ranks.
pub record ListedReady
    (rows edges ranks labels : List ℕ) (values : List ℤ) (me : List ℕ) (s : Store) (i : ℕ) : Type 0 where
  pub rank : ℕ → ℕ
  pub builder : Builder rank rows edges labels values me s
  pub listed : Listed rank rows ranks labels values i

pub record ListReady
    (rows edges ranks labels : List ℕ) (values : List ℤ) (me : List ℕ) (s : Store) (list : List ℕ) : Type 0 where
  pub rank : ℕ → ℕ
  pub builder : Builder rank rows edges labels values me s
  pub listed : AllListed rank rows ranks labels values list

-- An answer, with the terms' numbers, the memo and the store as they were left.
abbrev pub seen_all : Option Unit → List ℕ → List ℕ → Store → Out (List ℕ)
seen_all (Some u) ts me s = done ts (state me s)
seen_all None ts me s = no_more me s

-- Where a term had no room, the store was left as it was then.
abbrev pub LeftStuck : Store → Out (List ℕ) → Type 0
LeftStuck s (done ts s') = Unit {0}
LeftStuck s (full me rs ls ns) = Stuck s rs ls ns

-- The rows were built as the definition builds them, at every depth that is enough.
pub record RowsMade
    (p : Plan) (ranks : List ℕ) (name : ℕ → List ℕ) (kids : ℕ → List Child) (rows : List ℕ) (s : State)
    (o : Out (List ℕ)) : Type 0 where
  pub same : (d : ℕ) → Deep ranks d → rows_in p d name kids s [] rows ≡ o
  pub stuck : LeftStuck s.lent o

-- All the terms' numbers and the store then, or nothing and the store as it was.
pub data Wholly : Type 0 where
  whole : List ℕ → Store → Wholly
  nothing : Store → Wholly

-- "Nothing lent is changed" where there is no room.
unfoldable pub wholly : Store → Out (List ℕ) → Wholly
wholly s (done ts s') = whole ts s'.lent
wholly s (full me rs ls ns) = nothing s

abbrev pub seen_wholly : Option Unit → List ℕ → Store → Wholly
seen_wholly (Some u) ts s = whole ts s
seen_wholly None ts s = nothing s

-- What one call asks of the rows and the store: a row for every class with a rank, all below 512.
pub record Steady (rank : ℕ → ℕ) (rows edges labels : List ℕ) (values : List ℤ) (s : Store) : Type 0 where
  pub planned : (k : ℕ) → 0 < rank k → Planned rank rows edges labels values k
  pub inside : (k : ℕ) → 0 < rank k → k < 512
  pub formed : well_formed s ≡ true

pub record WholeReady
    (rows edges ranks labels : List ℕ) (values : List ℤ) (s : Store) (list : List ℕ) : Type 0 where
  pub rank : ℕ → ℕ
  pub steady : Steady rank rows edges labels values s
  pub listed : AllListed rank rows ranks labels values list

-- The rows as one call, by a memo that names no class.
abbrev pub RowsWhole : Plan → List ℕ → (ℕ → List ℕ) → (ℕ → List Child) → List ℕ → Store → Wholly → Type 0
RowsWhole p ranks name kids rows s w =
    (d : ℕ) → Deep ranks d → wholly s (rows_in p d name kids (state (replicate 512 0) s) [] rows) ≡ w
