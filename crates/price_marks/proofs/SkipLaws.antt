-- Rows that are off: relaxing one changes nothing; what a relaxation keeps of that; and a pass may leave them out.
-- Over any rows, any number M of saturation and any notion of being off. Assumes nothing.
use mathlib.Core.Path.{◌≡◌, refl, ap, sym, ◌∙◌}
use mathlib.Core.Bool.{Bool, true, false}
use mathlib.Core.List.{List, [], ◌∷◌}
use mathlib.Core.Logic.{◌⊎◌, inl, inr, ⊎_elim, ◌≢◌}
use Prim.Native.Nat.{ℕ, zero, suc, ◌+◌, ◌≤◌, ◌<◌}
use native.Mathlib.Omega.{arith}
use native.Mathlib.Decide.{ℕ_discrete, dec_lt}
use lib.ListN.{length, get_or, set, drop, drop_of_length-le}
use lib.Seq.{get_or-set_same, get_or-set_other}
use Rattle.choice_rules.specs.Rows.{Child, literal, class, Row, row_at}
use Rattle.choice_rules.specs.Run.{State, row_cost, improves, store, relax, pass}
use Rattle.choice_rules.proofs.ListLaws.{Each}
use Rattle.choice_rules.proofs.RelaxLaws.{AllPriced, Improves, Settled, improves-true, improves-false, relax-cases}
use Rattle.choice_rules.proofs.RankLaws.{Other, other-sum}
use Rattle.price_passes.proofs.PassLaws.{rows_drop}
use Rattle.price_marks.specs.Marks.{Covered}

-- a row that is settled improves nothing, and relaxing it changes nothing
pub settled-improves-not : (M : ℕ) (s : State) (r : Row) → Settled M s r → improves M s r ≡ false
settled-improves-not M s r k = go (improves M s r) refl
  where
    go : (b : Bool) → improves M s r ≡ b → improves M s r ≡ false
    go false e = e
    go true e =
        let i = improves-true M s r e in
        let q = k i.all-priced in
        absurd (⊎_elim (λ x. omega arith) (λ x. omega arith) i.better)

pub skip : (M : ℕ) (s : State) (r : Row) → improves M s r ≡ false → relax M s r ≡ s
unfolding relax
skip M s r e = rw e

other-priced : (l : List ℕ) (d v : ℕ) (ks : List Child) → Each (Other d) ks → AllPriced (set l d v) ks → AllPriced l ks
other-priced l d v [] o p = tt
other-priced l d v (literal i ∷ ks) o p = (tt, other-priced l d v ks o.1 p.1)
other-priced l d v (class c ∷ ks) o p =
    (rw (get_or-set_other l d c v 0 o.0) at p.0, other-priced l d v ks o.1 p.1)

module _ (M : ℕ) (s : State) (r : Row) (hr : r.output < length s.ranks) (hc : r.output < length s.costs)
  where
    other-row-cost : (q : Row) → Each (Other r.output) q.children
        → row_cost M (store M s r).costs q ≡ row_cost M s.costs q
    unfolding row_cost
    other-row-cost q o = rw (other-sum s.costs r.output (row_cost M s.costs r) q.children o)

    -- a row that has not the class for a child is settled by the store of that row, and stays settled by another's
    pub stored-settles : Each (Other r.output) r.children → Settled M (store M s r) r
    stored-settles o k =
        rw (
          get_or-set_same s.ranks r.output (suc s.last) 0 hr,
          get_or-set_same s.costs r.output (row_cost M s.costs r) 0 hc,
        )
        (omega arith, omega (arith, other-row-cost r o))

    pub settled-stays : Improves M s r → (q : Row) → Each (Other r.output) q.children → Settled M s q
        → Settled M (store M s r) q
    settled-stays i q o f k = go (ℕ_discrete q.output r.output)
      where
        was : (0 < get_or s.ranks q.output 0) × (get_or s.costs q.output 0 ≤ row_cost M s.costs q)
        was = f (other-priced s.ranks r.output (suc s.last) q.children o k)

        go : Dec (q.output ≡ r.output)
            → (0 < get_or (store M s r).ranks q.output 0)
            × (get_or (store M s r).costs q.output 0 ≤ row_cost M (store M s r).costs q)
        go (yes e) =
            let rank = ap (λ (k : ℕ). get_or (store M s r).ranks k 0) e
            ∙ get_or-set_same s.ranks r.output (suc s.last) 0 hr in
            let cost = ap (λ (k : ℕ). get_or (store M s r).costs k 0) e
            ∙ get_or-set_same s.costs r.output (row_cost M s.costs r) 0 hc in
            let rank₀ = ap (λ (k : ℕ). get_or s.ranks k 0) e in
            let cost₀ = ap (λ (k : ℕ). get_or s.costs k 0) e in
            let same = other-row-cost q o in
            let w = was in
            (omega arith, ⊎_elim (λ x. absurd (omega arith)) (λ x. omega arith) i.better)
        go (no d) =
            rw (
              get_or-set_other s.ranks r.output q.output (suc s.last) 0 d,
              get_or-set_other s.costs r.output q.output (row_cost M s.costs r) 0 d,
            )
            (was.0, omega (arith, was.1, other-row-cost q o))

module _ (M : ℕ) (rows : List Row) (s : State) (off₀ off : ℕ → Type 0) (i : ℕ) where
  abbrev now-row : Row
  now-row = row_at rows i

  -- row i is relaxed: what is off afterwards was off before, or is row i; and where a cost was stored, what is off
  -- afterwards has not its class for a child
  pub relax-covers : now-row.output < length s.ranks → now-row.output < length s.costs → Covered M rows s off₀
      → ((j : ℕ) → off j → (j ≡ i) ⊎ off₀ j)
      → ((relax M s now-row).last ≢ s.last → (j : ℕ) → j < length rows → off j
      → Each (Other now-row.output) (row_at rows j).children)
      → Covered M rows (relax M s now-row) off
  relax-covers hr hc v was free j h o = ⊎_elim
      (λ p. rw p.1 (settled-improves-not M (store M s now-row) (row_at rows j)
      (stored p (was j o))))
      (λ p. rw p.1 (⊎_elim
      (λ e. rw e (settled-improves-not M s now-row p.0))
      (λ k. v j h k)
      (was j o)))
      (relax-cases M s now-row)
    where
      stored : Improves M s now-row × (relax M s now-row ≡ store M s now-row) → (j ≡ i) ⊎ off₀ j
          → Settled M (store M s now-row) (row_at rows j)
      stored p (inl e) =
          let f = free (λ x. omega (arith, ap (λ (u : State). u.last) p.1)) j h o in
          rw e (stored-settles M s now-row hr hc (rw e at f))
      stored p (inr k) =
          let f = free (λ x. omega (arith, ap (λ (u : State). u.last) p.1)) j h o in
          settled-stays M s now-row hr hc p.0 (row_at rows j) f (improves-false M s (row_at rows j) (v j h k))

-- rows that are off are left out of a pass
pub pass-leaves-out : (M : ℕ) (rows : List Row) (s : State) (off : ℕ → Type 0) → Covered M rows s off → (n i : ℕ)
    → ((j : ℕ) → i ≤ j → j < i + n → off j) → pass M (drop (i + n) rows) s ≡ pass M (drop i rows) s
unfolding pass
pass-leaves-out M rows s off v zero i o = let e : i + 0 ≡ i = omega arith in ap (λ (k : ℕ). pass M (drop k rows) s) e
pass-leaves-out M rows s off v (suc n) i o =
    let e : i + suc n ≡ i + 1 + n = omega arith in
    ap (λ (k : ℕ). pass M (drop k rows) s) e
    ∙ pass-leaves-out M rows s off v n (i + 1) (λ j a b. o j (omega arith) (omega arith)) ∙ one (dec_lt i (length rows))
  where
    one : Dec (i < length rows) → pass M (drop (i + 1) rows) s ≡ pass M (drop i rows) s
    one (yes h) =
        sym (ap (λ (l : List Row). pass M l s) (rows_drop rows i h)
        ∙ ap (λ (u : State). pass M (drop (i + 1) rows) u)
        (skip M s (row_at rows i) (v i h (o i (omega arith) (omega arith)))))
    one (no h) =
        ap (λ (l : List Row). pass M l s)
        (drop_of_length-le rows {i = i + 1} (omega arith) ∙ sym (drop_of_length-le rows {i = i} (omega arith)))
