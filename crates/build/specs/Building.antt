-- Building the term of a class into a lent store: document 01, 'Costs and choice'. Assumes nothing: these are
-- definitions.
use Rattle.std.specs.Prelude.{ℕ, zero, suc, ◌+◌, ◌-◌, true, false, List, [], ◌∷◌, ◌++◌, get_or, set, ltb, ℤ}
use Rattle.term_rules.specs.Lent.{Store}
use Rattle.term_rules.specs.Nodes.{literal, application}
use Rattle.term_rules.specs.Adding.{Adds, at, no_room, add}
use Rattle.build.specs.Plan.{Child, class, value, Plan}

-- what was built so far: of each class 0, or one more than its term's number; and the store
pub record State : Type 0 where
  pub memo : List ℕ
  pub lent : Store

abbrev pub state : List ℕ → Store → State
state me s = record { memo = me; lent = s }

-- what was built and the state then; or that there was no room, and the memo, records, literals and names as they
-- were left
pub data Out (A : Type 0) : Type 0 where
  done : A → State → Out A
  full : List ℕ → List ℕ → List ℤ → List ℕ → Out A

abbrev pub no_more : {A : Type 0} → List ℕ → Store → Out A
no_more me s = full me s.records s.literals s.names

-- what adding a term gives
unfoldable pub added : State → Adds → Out ℕ
added s (at t lent) = done t (state s.memo lent)
added s no_room = no_more s.memo s.lent

-- class c has its term
unfoldable pub kept : ℕ → Out ℕ → Out ℕ
kept c (done t s) = done t (state (set s.memo c (t + 1)) s.lent)
kept c (full me rs ls ns) = full me rs ls ns

-- a child by g, where it is a class
unfoldable pub child_in : (State → ℕ → Out ℕ) → State → Child → Out ℕ
child_in g s (class c) = g s c
child_in g s (value z) = added s (add s.lent (literal z))

-- "left to right": the children xs after those that have the numbers ks
unfoldable pub children_in : (State → ℕ → Out ℕ) → State → List ℕ → List Child → Out (List ℕ)
children_in g s ks [] = done ks s
children_in g s ks (x ∷ xs) =
    elim (child_in g s x) [
      | done t s' ↦ children_in g s' (ks ++ (t ∷ [])) xs
      | full me rs ls ns ↦ full me rs ls ns
    ]

-- "then the term itself": that of class c, by name
unfoldable pub own_in : List ℕ → ℕ → Out (List ℕ) → Out ℕ
own_in name c (done ks s) = kept c (added s (add s.lent (application name ks)))
own_in name c (full me rs ls ns) = full me rs ls ns

-- "The term is built children first, left to right, then the term itself, once per sort and class." The number f
-- bounds the depth; a class's rank is enough.
unfoldable pub build_in : Plan → ℕ → State → ℕ → Out ℕ
build_in p zero s c = no_more s.memo s.lent
build_in p (suc f) s c =
    elim (ltb 0 (get_or s.memo c 0)) [
      | true ↦ done (get_or s.memo c 0 - 1) s
      | false ↦ own_in (p.name c) c (children_in (build_in p f) s [] (p.children c))
    ]
