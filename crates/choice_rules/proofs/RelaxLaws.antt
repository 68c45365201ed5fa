-- One relaxation: it improves the row's class, or the row is settled. Assumes nothing.
use mathlib.Core.Path.{◌≡◌, refl, ap}
use mathlib.Core.Bool.{Bool, true, false, ◌||◌}
use mathlib.Core.List.{List}
use mathlib.Core.Logic.{◌⊎◌, inl, inr, ⊎_elim, ◌≢◌}
use Prim.Native.Nat.{ℕ, ◌+◌, ◌≤◌, ◌<◌}
use native.Mathlib.Omega.{arith}
use lib.ListN.{get_or}
use lib.Dec.{ltb, eqb}
use borrow.Author.Tests.{ltb-true, ltb-false, eqb-true, eqb-false, lt-ltb}
use Rattle.choice_rules.specs.Rows.{Child, literal, class, Row}
use Rattle.choice_rules.specs.Run.{State, priced, row_priced, row_cost, improves, store, relax}
use Rattle.choice_rules.proofs.ListLaws.{Each, each_map, all-each, each_all, and_cases, or_cases, or-fails}

-- a child has a cost
abbrev pub Priced : List ℕ → Child → Type 0
Priced ranks (literal i) = Unit {0}
Priced ranks (class c) = 0 < get_or ranks c 0

pub priced-true : (ranks : List ℕ) (k : Child) → priced ranks k ≡ true → Priced ranks k
unfolding priced
priced-true ranks (literal i) e = tt
priced-true ranks (class c) e = ltb-true 0 (get_or ranks c 0) e

pub true-priced : (ranks : List ℕ) (k : Child) → Priced ranks k → priced ranks k ≡ true
unfolding priced
true-priced ranks (literal i) h = refl
true-priced ranks (class c) h = lt-ltb 0 (get_or ranks c 0) h

-- all children of a row have a cost
abbrev pub AllPriced : List ℕ → List Child → Type 0
AllPriced ranks ks = Each (Priced ranks) ks

pub row-priced-true : (ranks : List ℕ) (r : Row) → row_priced ranks r ≡ true → AllPriced ranks r.children
row-priced-true ranks r e =
    each_map (λ k. priced ranks k ≡ true) (Priced ranks) (priced-true ranks) r.children
    (all-each (priced ranks) r.children e)

pub true-row-priced : (ranks : List ℕ) (r : Row) → AllPriced ranks r.children → row_priced ranks r ≡ true
true-row-priced ranks r e =
    each_all (priced ranks) r.children (each_map (Priced ranks) (λ k. priced ranks k ≡ true) (true-priced ranks)
    r.children e)

module _ (M : ℕ) (s : State) (r : Row) where
  pub record Improves : Type 0 where
    pub all-priced : AllPriced s.ranks r.children
    pub better : (get_or s.ranks r.output 0 ≡ 0) ⊎ (row_cost M s.costs r < get_or s.costs r.output 0)

  -- if the row has a cost, so has its class, and none higher
  abbrev pub Settled : Type 0
  Settled =
      AllPriced s.ranks r.children
      → (0 < get_or s.ranks r.output 0) × (get_or s.costs r.output 0 ≤ row_cost M s.costs r)

  abbrev first : Bool
  first = eqb (get_or s.ranks r.output 0) 0

  abbrev lower : Bool
  lower = ltb (row_cost M s.costs r) (get_or s.costs r.output 0)

  pub improves-true : improves M s r ≡ true → Improves
  unfolding improves
  improves-true e =
      let p = and_cases (row_priced s.ranks r) (first || lower) e in
      record {
        all-priced = row-priced-true s.ranks r p.0;
        better = ⊎_elim
            (λ q. inl (eqb-true (get_or s.ranks r.output 0) 0 q))
            (λ q. inr (ltb-true (row_cost M s.costs r) (get_or s.costs r.output 0) q))
            (or_cases first lower p.1);
      }

  pub improves-false : improves M s r ≡ false → Settled
  unfolding improves
  improves-false e k =
      let q = or-fails first lower (rw (true-row-priced s.ranks r k) at e) in
      let z : get_or s.ranks r.output 0 ≢ 0 = eqb-false (get_or s.ranks r.output 0) 0 q.0 in
      (omega arith, ltb-false (row_cost M s.costs r) (get_or s.costs r.output 0) q.1)

  pub relax-cases : (Improves × (relax M s r ≡ store M s r)) ⊎ (Settled × (relax M s r ≡ s))
  unfolding relax
  relax-cases = go (improves M s r) refl
    where
      go : (b : Bool) → improves M s r ≡ b → (Improves × (relax M s r ≡ store M s r)) ⊎ (Settled × (relax M s r ≡ s))
      go true e = inl (improves-true e, rw e refl)
      go false e = inr (improves-false e, rw e refl)

  -- the last rank rises by at most one
  pub relax-last : (s.last ≤ (relax M s r).last) × ((relax M s r).last ≤ s.last + 1)
  relax-last = ⊎_elim
      (λ p. let e = ap (λ (u : State). u.last) p.1 in (omega arith, omega arith))
      (λ p. let e = ap (λ (u : State). u.last) p.1 in (omega arith, omega arith))
      relax-cases
