-- A pass takes no cost away and raises none, and after it no row that had a cost before is cheaper than its class.
-- Assumes nothing.
use mathlib.Core.Path.{◌≡◌}
use mathlib.Core.List.{List, [], ◌∷◌}
use mathlib.Core.Logic.{⊎_elim}
use Prim.Native.Nat.{ℕ, suc, ◌≤◌, ◌<◌}
use native.Mathlib.Omega.{arith}
use native.Mathlib.Decide.{ℕ_discrete}
use lib.ListN.{get_or}
use lib.Seq.{get_or-set_same, get_or-set_other}
use Rattle.choice_rules.specs.Rows.{Child, literal, class, Row, Within, sum_of}
use Rattle.choice_rules.specs.Run.{State, child_cost, row_cost, store, relax, pass}
use Rattle.choice_rules.proofs.ListLaws.{Has, has-head, has-tail, has-cases, has-none}
use Rattle.choice_rules.proofs.RelaxLaws.{AllPriced, Improves, relax-cases}
use Rattle.choice_rules.proofs.PassLaws.{Sized, sized-keeps, relax-keeps}
use Rattle.choice_rules.proofs.RankLaws.{in-costs, in-ranks}

-- u is s or better
abbrev pub Better : State → State → Type 0
Better s u =
    (c : ℕ) → 0 < get_or s.ranks c 0 → (0 < get_or u.ranks c 0) × (get_or u.costs c 0 ≤ get_or s.costs c 0)

better-same : (s : State) → Better s s
better-same s c h = (h, omega arith)

better-trans : (s t u : State) → Better s t → Better t u → Better s u
better-trans s t u f g c h =
    let a = f c h in
    let b = g c a.0 in
    (b.0, omega arith)

better-sum : (s u : State) → Better s u → (ks : List Child) → AllPriced s.ranks ks
    → AllPriced u.ranks ks × (sum_of (child_cost u.costs) ks ≤ sum_of (child_cost s.costs) ks)
unfolding sum_of child_cost
better-sum s u f [] r = (tt, omega arith)
better-sum s u f (literal i ∷ ks) r = let b = better-sum s u f ks r.1 in ((tt, b.0), omega arith)
better-sum s u f (class c ∷ ks) r =
    let a = f c r.0 in
    let b = better-sum s u f ks r.1 in
    ((a.0, b.0), omega arith)

module _ (M : ℕ) (rows : List Row) (n : ℕ) (w : Within n rows) where
  store-better : (s : State) (r : Row) → Has rows r → Improves M s r → Sized n s → Better s (store M s r)
  store-better s r m i z c h = go (ℕ_discrete c r.output)
    where
      v : ℕ
      v = row_cost M s.costs r

      go : Dec (c ≡ r.output)
          → (0 < get_or (store M s r).ranks c 0) × (get_or (store M s r).costs c 0 ≤ get_or s.costs c 0)
      go (yes e) =
          let h' = rw e at h in
          rw (
            e,
            get_or-set_same s.ranks r.output (suc s.last) 0 (in-ranks M rows n w s r m i z),
            get_or-set_same s.costs r.output (row_cost M s.costs r) 0 (in-costs M rows n w s r m i z),
          )
          (omega arith, ⊎_elim (λ x. absurd (omega arith)) (λ x. omega arith) i.better)
      go (no d) =
          rw (
            get_or-set_other s.ranks r.output c (suc s.last) 0 d,
            get_or-set_other s.costs r.output c (row_cost M s.costs r) 0 d,
          )
          (h, omega arith)

  relax-better : (s : State) (r : Row) → Has rows r → Sized n s → Better s (relax M s r)
  relax-better s r m z = ⊎_elim
      (λ p. rw p.1 (store-better s r m p.0 z))
      (λ p. rw p.1 (better-same s))
      (relax-cases M s r)

  abbrev Part : List Row → Type 0
  Part rs = (r : Row) → Has rs r → Has rows r

  rows-better : (rs : List Row) → Part rs → (s : State) → Sized n s → Better s (pass M rs s)
  unfolding pass
  rows-better [] sub s z = better-same s
  rows-better (r ∷ rs) sub s z =
      let m = sub r (has-head r rs) in
      better-trans s (relax M s r) (pass M rs (relax M s r)) (relax-better s r m z)
      (rows-better rs (λ q l. sub q (has-tail q r rs l)) (relax M s r)
      (relax-keeps M rows (Sized n) (sized-keeps M n rows) s r m z))

  pub pass-better : (s : State) → Sized n s → Better s (pass M rows s)
  pass-better s z = rows-better rows (λ q l. l) s z

  -- u has a cost for the class of r, no higher than r's in s
  abbrev pub Served : State → State → Row → Type 0
  Served s u r = (0 < get_or u.ranks r.output 0) × (get_or u.costs r.output 0 ≤ row_cost M s.costs r)

  relax-serves : (s : State) (r : Row) → Has rows r → Sized n s → AllPriced s.ranks r.children
      → Served s (relax M s r) r
  relax-serves s r m z k = ⊎_elim
      (λ p.
      rw (
        p.1,
        get_or-set_same s.ranks r.output (suc s.last) 0 (in-ranks M rows n w s r m p.0 z),
        get_or-set_same s.costs r.output (row_cost M s.costs r) 0 (in-costs M rows n w s r m p.0 z),
      )
      (omega arith, omega arith))
      (λ p. rw p.1 (p.0 k))
      (relax-cases M s r)

  rows-serve : (rs : List Row) → Part rs → (s : State) → Sized n s → (r : Row) → Has rs r
      → AllPriced s.ranks r.children → Served s (pass M rs s) r
  unfolding pass row_cost
  rows-serve [] sub s z r m k = absurd (has-none r m)
  rows-serve (q ∷ rs) sub s z r m k =
      let t = relax M s q in
      let mq = sub q (has-head q rs) in
      let part : Part rs = λ x y. sub x (has-tail x q rs y) in
      let zt = relax-keeps M rows (Sized n) (sized-keeps M n rows) s q mq z in
      let mt = rows-better rs part t zt in
      let mk = better-sum s t (relax-better s q mq z) r.children k in
      ⊎_elim
      (λ e. let d : Served s t r = rw (← e) (relax-serves s r (sub r m) z k) in
      let g = mt r.output d.0 in
      (g.0, omega arith))
      (λ m'. let g = rows-serve rs part t zt r m' mk.0 in (g.0, omega arith))
      (has-cases r q rs m)

  pub pass-serves : (s : State) → Sized n s → (r : Row) → Has rows r → AllPriced s.ranks r.children
      → Served s (pass M rows s) r
  pass-serves s z r m k = rows-serve rows (λ q l. l) s z r m k
