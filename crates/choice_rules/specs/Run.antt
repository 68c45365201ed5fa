-- The relaxation: document 01, 'Costs and choice', second paragraph. M is the number at which costs saturate.
-- Assumes nothing: definitions.
use Rattle.std.specs.Prelude.{◌≡◌, Bool, true, false, cond, ◌&&◌, ◌||◌, List, [], ◌∷◌, ◌≢◌, ℕ, zero, suc, ◌+◌, ◌<◌, min, get_or, set, replicate, ltb, eqb}
use Rattle.choice_rules.specs.Rows.{Child, literal, class, Row, sum_of, all_of}

-- The classes' costs and ranks, and the last rank given. A class without cost has rank 0.
pub record State : Type 0 where
  pub costs : List ℕ
  pub ranks : List ℕ
  pub last : ℕ

-- "a base child costs 1"; a class costs what is stored.
unfoldable pub child_cost : List ℕ → Child → ℕ
child_cost costs (literal i) = 1
child_cost costs (class c) = get_or costs c 0

-- Whether a child has a cost.
unfoldable pub priced : List ℕ → Child → Bool
priced ranks (literal i) = true
priced ranks (class c) = ltb 0 (get_or ranks c 0)

-- "a child without cost gives the row none".
abbrev pub row_priced : List ℕ → Row → Bool
row_priced ranks r = all_of (priced ranks) r.children

-- "A row's cost is its head cost plus its children's, saturating at 2^64-1".
unfoldable pub row_cost : ℕ → List ℕ → Row → ℕ
row_cost M costs r = min M (r.head + sum_of (child_cost costs) r.children)

-- "A strictly lower or first cost is stored".
unfoldable pub improves : ℕ → State → Row → Bool
improves M s r =
    row_priced s.ranks r
    && (eqb (get_or s.ranks r.output 0) 0 || ltb (row_cost M s.costs r) (get_or s.costs r.output 0))

-- "and the class takes the next rank, from 1".
abbrev pub store : ℕ → State → Row → State
store M s r = record {
  costs = set s.costs r.output (row_cost M s.costs r);
  ranks = set s.ranks r.output (suc s.last);
  last = suc s.last;
}

unfoldable pub relax : ℕ → State → Row → State
relax M s r = cond (improves M s r) (store M s r) s

-- "A pass takes .. rows" in scan order.
unfoldable pub pass : ℕ → List Row → State → State
pass M [] s = s
pass M (r ∷ rs) s = pass M rs (relax M s r)

-- p passes.
unfoldable pub passes : ℕ → List Row → ℕ → State → State
passes M rows zero s = s
passes M rows (suc p) s = pass M rows (passes M rows p s)

-- Where a run begins: n classes, none with a cost.
abbrev pub blank : ℕ → State
blank n = record { costs = replicate n 0; ranks = replicate n 0; last = 0 }

-- What a run leaves: the state, and the number of passes.
pub record Run : Type 0 where
  pub state : State
  pub passes : ℕ

-- "Passes repeat until one changes nothing": a pass that changes something gives a rank. p passes are counted so far.
unfoldable pub run_from : ℕ → List Row → ℕ → State → ℕ → Run
run_from M rows zero s p = record { state = s; passes = p }
run_from M rows (suc fuel) s p =
    elim (eqb (pass M rows s).last s.last) [
      | true ↦ record { state = pass M rows s; passes = suc p }
      | false ↦ run_from M rows fuel (pass M rows s) (suc p)
    ]

-- The run over n classes; n + 1 passes are enough.
unfoldable pub run : ℕ → List Row → ℕ → Run
run M rows n = run_from M rows (suc n) (blank n) 0

-- "the number of passes, the last and changeless one counted": all passes before it change something.
pub record FirstStill (M : ℕ) (rows : List Row) (start : State) (r : Run) : Type 0 where
  pub before : ℕ
  pub counted : r.passes ≡ suc before
  pub busy : (q : ℕ) → q < before → pass M rows (passes M rows q start) ≢ passes M rows q start
  pub still : pass M rows (passes M rows before start) ≡ passes M rows before start
  pub result : r.state ≡ passes M rows before start

-- 1 for a rank that was given.
unfoldable pub given : ℕ → ℕ
given r = cond (ltb 0 r) 1 0

-- "the number of classes that end with a cost".
abbrev pub costed : List ℕ → ℕ
costed ranks = sum_of given ranks
