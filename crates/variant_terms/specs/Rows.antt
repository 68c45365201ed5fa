-- The term of one row, each child class by its best term: document 01, 'Costs and choice'. Assumes nothing:
-- definitions.
use Rattle.std.specs.Prelude.{ℕ, ◌-◌, ◌<◌, ◌≤◌, ◌≡◌, true, List, [], map, ℤ, length, get_or}
use Rattle.term_rules.specs.Lent.{Store}
use Rattle.term_rules.specs.WellFormed.{well_formed}
use Rattle.term_rules.specs.Growing.{Grows}
use Rattle.build.specs.Plan.{Plan, plan_of, child_of}
use Rattle.build.specs.Building.{State, state, Out, done, full, child_in, children_in, build_in}
use Rattle.build.specs.Standing.{Tracks, Stuck}
use Rattle.build.specs.Ready.{Label, Planned}
use Rattle.answer_rules.specs.Variants.{own_variant}

-- A depth that is enough for every class: above each rank.
abbrev pub Deep : List ℕ → ℕ → Type 0
Deep ranks d = (c : ℕ) → get_or ranks c 0 < d

-- What building asks of the rows, whatever the class: a row for every class with a rank, and a memo with a place for
-- each that tells the truth of a well-formed store.
pub record Builder
    (rank : ℕ → ℕ) (rows edges labels : List ℕ) (values : List ℤ) (me : List ℕ) (s : Store) : Type 0 where
  pub planned : (k : ℕ) → 0 < rank k → Planned rank rows edges labels values k
  pub inside : (k : ℕ) → 0 < rank k → k < length me
  pub tracks : Tracks (plan_of rows edges labels values) (state me s)

-- A child number that can be built: a class with a rank, none above the one that the list of ranks has for it, or a
-- literal of the table.
pub record KidIn (rank : ℕ → ℕ) (ranks : List ℕ) (values : List ℤ) (x : ℕ) : Type 0 where
  pub ranked : x < 512 → 0 < rank x
  pub place : x < 512 → x < length ranks
  pub enough : x < 512 → rank x ≤ get_or ranks x 0
  pub known : 512 ≤ x → x - 512 < length values

-- What a row's own term asks: a name, and children in a well-formed store.
pub record OwnIn (labels : List ℕ) (f : ℕ) (s : Store) (ks : List ℕ) : Type 0 where
  pub name : Label labels f
  pub few : length ks ≤ 8
  pub formed : well_formed s ≡ true

-- What was there stays, the memo still tells the truth, and the new term is in the store.
pub record Leads (p : Plan) (s : State) (t : ℕ) (s' : State) : Type 0 where
  pub grows : Grows s.lent s'.lent
  pub tracks : Tracks p s'
  pub below : t < s'.lent.terms

-- What an answer leaves.
abbrev pub Leaves : Plan → State → Out ℕ → Type 0
Leaves p s (done t s') = Leads p s t s'
Leaves p s (full me rs ls ns) = Stuck s.lent rs ls ns

-- A child was built as the definition builds it, at every depth that is enough.
pub record KidMade (p : Plan) (ranks : List ℕ) (values : List ℤ) (s : State) (x : ℕ) (o : Out ℕ) : Type 0 where
  pub same : (d : ℕ) → Deep ranks d → child_in (build_in p d) s (child_of values x) ≡ o
  pub leaves : Leaves p s o

-- A row that can be built: its function has a name, and each child can be built.
pub record RowIn
    (rank : ℕ → ℕ) (ranks labels : List ℕ) (values : List ℤ) (f : ℕ) (kids : List ℕ) : Type 0 where
  pub name : Label labels f
  pub few : length kids ≤ 8
  pub each : (j : ℕ) → j < length kids → KidIn rank ranks values (get_or kids j 0)

-- Both by some ranks, for a child and for a row.
pub record KidReady
    (rows edges ranks labels : List ℕ) (values : List ℤ) (me : List ℕ) (s : Store) (x : ℕ) : Type 0 where
  pub rank : ℕ → ℕ
  pub builder : Builder rank rows edges labels values me s
  pub kid : KidIn rank ranks values x

pub record RowReady
    (rows edges ranks labels : List ℕ) (values : List ℤ) (me : List ℕ) (s : Store) (f : ℕ) (kids : List ℕ) : Type 0
  where
    pub rank : ℕ → ℕ
    pub builder : Builder rank rows edges labels values me s
    pub row : RowIn rank ranks labels values f kids

-- A row's term was built as the definition builds it, at every depth that is enough.
pub record RowMade
    (p : Plan) (ranks : List ℕ) (values : List ℤ) (name kids : List ℕ) (s : State) (o : Out ℕ) : Type 0 where
  pub same :
      (d : ℕ) → Deep ranks d → own_variant name (children_in (build_in p d) s [] (map (child_of values) kids)) ≡ o
  pub leaves : Leaves p s o
