-- Passes come to a fixpoint: at every improvement a sum over the classes falls. Assumes nothing.
use mathlib.Core.Path.{◌≡◌, refl}
use mathlib.Core.Bool.{Bool, true, false, cond}
use mathlib.Core.List.{List}
use mathlib.Core.Logic.{⊎_elim, ◌≢◌}
use Prim.Native.Nat.{ℕ, suc, zero, ◌+◌, ◌≤◌, ◌<◌}
use native.Mathlib.Omega.{arith}
use native.Mathlib.Decide.{ℕ_discrete, dec_le}
use lib.ListN.{get_or}
use lib.Dec.{ltb}
use borrow.Author.Tests.{ltb-true, lt-ltb}
use lib.Seq.{get_or-set_same, get_or-set_other}
use Rattle.choice_rules.specs.Rows.{Row, Within}
use Rattle.choice_rules.specs.Run.{State, row_cost, store, pass, passes}
use Rattle.choice_rules.proofs.ListLaws.{Has}
use Rattle.choice_rules.proofs.RelaxLaws.{Improves}
use Rattle.choice_rules.proofs.PassLaws.{Keeps, pass-keeps, Sized, sized-keeps}
use Rattle.choice_rules.proofs.SoundLaws.{has_within}
use Rattle.choice_rules.proofs.RankLaws.{in-costs, in-ranks}
use Rattle.choice_rules.proofs.TotalLaws.{total, total-less}

-- a class's cost, and more than any cost while it has none
unfoldable pub weight : ℕ → State → ℕ → ℕ
weight M s c = cond (ltb 0 (get_or s.ranks c 0)) (get_or s.costs c 0) (suc M)

module _ (M n : ℕ) (rows : List Row) (w : Within n rows) where
  weight-new : (s : State) (r : Row) → Has rows r → Improves M s r → Sized n s
      → weight M (store M s r) r.output < weight M s r.output
  unfolding weight row_cost
  weight-new s r m i z =
      rw (
        get_or-set_same s.ranks r.output (suc s.last) 0 (in-ranks M rows n w s r m i z),
        get_or-set_same s.costs r.output (row_cost M s.costs r) 0 (in-costs M rows n w s r m i z),
        lt-ltb 0 (suc s.last) (omega arith),
      )
      (go (ltb 0 (get_or s.ranks r.output 0)) refl)
    where
      go : (b : Bool) → ltb 0 (get_or s.ranks r.output 0) ≡ b
          → row_cost M s.costs r < cond (ltb 0 (get_or s.ranks r.output 0)) (get_or s.costs r.output 0)
          (suc M)
      go true e =
          let h = ltb-true 0 (get_or s.ranks r.output 0) e in
          rw e (⊎_elim (λ x. absurd (omega arith)) (λ x. x) i.better)
      go false e = rw e (omega arith)

  weight-le : (s : State) (r : Row) → Has rows r → Improves M s r → Sized n s → (c : ℕ)
      → weight M (store M s r) c ≤ weight M s c
  unfolding weight
  weight-le s r m i z c = go (ℕ_discrete c r.output)
    where
      other : c ≢ r.output → weight M (store M s r) c ≤ weight M s c
      other d =
          rw (
            get_or-set_other s.ranks r.output c (suc s.last) 0 d,
            get_or-set_other s.costs r.output c (row_cost M s.costs r) 0 d,
          )
          (omega arith)

      go : Dec (c ≡ r.output) → weight M (store M s r) c ≤ weight M s c
      go (yes e) = rw e (omega (arith, weight-new s r m i z))
      go (no d) = other d

  -- weight and last rank together never rise above K
  abbrev Light : ℕ → State → Type 0
  Light K s = Sized n s × (total (weight M s) n + s.last ≤ K)

  light-keeps : (K : ℕ) → Keeps M rows (Light K)
  light-keeps K s r m i l = (
    sized-keeps M n rows s r m i l.0,
    omega (
      arith,
      total-less (weight M (store M s r)) (weight M s) n (weight-le s r m i l.0) r.output
          (has_within n rows w r m) (weight-new s r m i l.0),
    ),
  )

  abbrev Still : State → ℕ → Type 0
  Still s q = (pass M rows (passes M rows q s)).last ≤ (passes M rows q s).last

  pass-light : (s : State) → Sized n s → Light (total (weight M s) n + s.last) (pass M rows s)
  pass-light s z =
      pass-keeps M rows (Light (total (weight M s) n + s.last)) (light-keeps (total (weight M s) n + s.last)) s
      (z, omega arith)

  -- from p passes on, a pass that gives no rank comes
  still-from : (k : ℕ) (s : State) (p : ℕ) → Sized n (passes M rows p s) → total (weight M (passes M rows p s)) n ≤ k
      → (q : ℕ) × Still s q
  unfolding passes
  still-from zero s p z h = (p, omega (arith, (pass-light (passes M rows p s) z).1))
  still-from (suc k) s p z h =
      let l = pass-light (passes M rows p s) z in
      go (dec_le (pass M rows (passes M rows p s)).last (passes M rows p s).last) (still-from k s (suc p) l.0) l
    where
      go : Dec (Still s p) → (total (weight M (pass M rows (passes M rows p s))) n ≤ k → (q : ℕ) × Still s q)
          → Light (total (weight M (passes M rows p s)) n + (passes M rows p s).last) (pass M rows (passes M rows p s))
          → (q : ℕ) × Still s q
      go (yes e) later l = (p, e)
      go (no e) later l = later (omega (arith, l.1))

  pub still-comes : (s : State) → Sized n s
      → (q : ℕ) × ((pass M rows (passes M rows q s)).last ≤ (passes M rows q s).last)
  unfolding passes
  still-comes s z = still-from (total (weight M s) n) s 0 z (omega arith)
