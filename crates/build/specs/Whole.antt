-- Building as one call: all or nothing. Document 01, 'Refusal numbers'. Assumes nothing: these are definitions.
use Rattle.std.specs.Prelude.{ℕ, ◌+◌, ◌≤◌, ◌<◌, ◌≡◌, true, List, replicate, Option, Some, None, ℤ}
use Rattle.term_rules.specs.Lent.{Store}
use Rattle.term_rules.specs.WellFormed.{well_formed}
use Rattle.term_rules.specs.Growing.{Grows}
use Rattle.build.specs.Plan.{class, Plan}
use Rattle.build.specs.Building.{state, Out, done, full, build_in}
use Rattle.build.specs.Standing.{Stands}
use Rattle.build.specs.Ready.{Planned}

-- an answer, with the store as it is left
pub record Left : Type 0 where
  pub answer : Option ℕ
  pub store : Store

-- "Nothing lent is changed" where there is no room
unfoldable pub left : Store → Out ℕ → Left
left s (done t s') = record { answer = Some t; store = s'.lent }
left s (full me rs ls ns) = record { answer = None; store = s }

-- the term of a class of this rank, by a memo that names no class
unfoldable pub whole : Plan → ℕ → Store → ℕ → Left
whole p rank s c = left s (build_in p (rank + 1) (state (replicate 512 0) s) c)

-- what it asks: as `build`, with a memo of 512 places that names no class
pub record Ready (rows edges labels : List ℕ) (values : List ℤ) (s : Store) (level c : ℕ) : Type 0 where
  pub rank : ℕ → ℕ
  pub planned : (k : ℕ) → 0 < rank k → Planned rank rows edges labels values k
  pub inside : (k : ℕ) → 0 < rank k → k < 512
  pub formed : well_formed s ≡ true
  pub ranked : 0 < rank c
  pub enough : rank c ≤ level

-- Demand 3 speaks of the term in the returned store: term t of it is the tree of class c, and every term that was
-- there stays.
pub record Enters (p : Plan) (s : Store) (c t : ℕ) (s' : Store) : Type 0 where
  pub grows : Grows s s'
  pub stands : Stands p s' (class c) t

-- what each answer tells: NoRoom, that nothing lent is changed
abbrev pub Tells : Plan → Store → ℕ → Option ℕ → Store → Type 0
Tells p s c (Some t) s' = Enters p s c t s'
Tells p s c None s' = s' ≡ s
