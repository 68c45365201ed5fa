-- The run: it stops at the first pass that changes nothing, whatever fuel past the bound; there every row is settled.
-- Assumes nothing.
use mathlib.Core.Path.{◌≡◌, refl, ap, sym, ◌∙◌}
use mathlib.Core.Bool.{Bool, true, false}
use mathlib.Core.List.{List}
use mathlib.Core.Logic.{◌≢◌}
use Prim.Native.Nat.{ℕ, suc, zero, ◌+◌, ◌≤◌, ◌<◌}
use native.Mathlib.Omega.{arith}
use native.Mathlib.Decide.{ℕ_discrete, dec_lt}
use borrow.Author.Tests.{eqb-true, eqb-false}
use lib.Dec.{eqb}
use Rattle.choice_rules.specs.Rows.{Row, Within}
use Rattle.choice_rules.specs.Run.{State, Run, pass, passes, blank, run_from, run, FirstStill, costed}
use Rattle.choice_rules.proofs.PassLaws.{Fixed, pass-still}
use Rattle.choice_rules.proofs.BoundLaws.{Good, Busy, good-blank, good-passes, busy-le-classes, busy-le-costed}

module _ (M : ℕ) (rows : List Row) where
  pub busy-more : (s : State) (p : ℕ) → Busy M rows s p → pass M rows (passes M rows p s) ≢ passes M rows p s
      → Busy M rows s (suc p)
  busy-more s p b d q l = go (ℕ_discrete q p)
    where
      go : Dec (q ≡ p) → pass M rows (passes M rows q s) ≢ passes M rows q s
      go (yes e) = rw e d
      go (no n) = b q (omega arith)

  -- the first changeless pass is one
  pub first-still-unique : (start : State) (a b : Run) → FirstStill M rows start a → FirstStill M rows start b → a ≡ b
  first-still-unique start a b x y = go (dec_lt x.before y.before) (dec_lt y.before x.before)
    where
      go : Dec (x.before < y.before) → Dec (y.before < x.before) → a ≡ b
      go (yes l) d = absurd (y.busy x.before l x.still)
      go (no l) (yes d) = absurd (x.busy y.before d y.still)
      go (no l) (no d) =
          let e : x.before ≡ y.before = omega arith in
          let s : a.state ≡ b.state = x.result ∙ ap (λ (p : ℕ). passes M rows p start) e ∙ sym y.result in
          let p : a.passes ≡ b.passes = x.counted ∙ ap suc e ∙ sym y.counted in
          λ i. record { state = s i; passes = p i }

  run-from-stops : (fuel : ℕ) (s : State) (p : ℕ) → eqb (pass M rows s).last s.last ≡ true
      → run_from M rows (suc fuel) s p ≡ record { state = pass M rows s; passes = suc p }
  unfolding run_from
  run-from-stops fuel s p e = rw (e, run_from)

  run-from-goes-on : (fuel : ℕ) (s : State) (p : ℕ) → eqb (pass M rows s).last s.last ≡ false
      → run_from M rows (suc fuel) s p ≡ run_from M rows fuel (pass M rows s) (suc p)
  unfolding run_from
  run-from-goes-on fuel s p e = rw (e, run_from)

  -- with fuel for more than n passes, and never more than n that change something
  first-still-from : (start : State) (n : ℕ) → ((p : ℕ) → Busy M rows start p → p ≤ n)
      → (fuel p : ℕ) → n < p + fuel → Busy M rows start p
      → FirstStill M rows start (run_from M rows fuel (passes M rows p start) p)
  unfolding passes
  first-still-from start n few zero p l b = absurd (omega (arith, few p b))
  first-still-from start n few (suc fuel) p l b =
      go (eqb (pass M rows (passes M rows p start)).last (passes M rows p start).last) refl
      (λ c. first-still-from start n few fuel (suc p) (omega arith) c)
    where
      go : (t : Bool) → eqb (pass M rows (passes M rows p start)).last (passes M rows p start).last ≡ t
          → (Busy M rows start (suc p)
          → FirstStill M rows start (run_from M rows fuel (pass M rows (passes M rows p start)) (suc p)))
          → FirstStill M rows start (run_from M rows (suc fuel) (passes M rows p start) p)
      go true e later =
          let h = eqb-true (pass M rows (passes M rows p start)).last (passes M rows p start).last e in
          let k = (pass-still M rows (passes M rows p start) (omega arith)).1 in
          rw (run-from-stops fuel (passes M rows p start) p e)
          (record { before = p; counted = refl; busy = b; still = k; result = k })
      go false e later =
          let h = eqb-false (pass M rows (passes M rows p start)).last (passes M rows p start).last e in
          rw (run-from-goes-on fuel (passes M rows p start) p e)
          (later (busy-more start p b (λ k. h (ap (λ (u : State). u.last) k))))

module _ (M n : ℕ) (rows : List Row) (w : Within n rows) where
  pub busy-blank : (p : ℕ) → Busy M rows (blank n) p → p ≤ n
  busy-blank = busy-le-classes M n rows w (blank n) (good-blank M n rows w)

  pub run-first-still-at : (fuel : ℕ) → n < fuel → FirstStill M rows (blank n) (run_from M rows fuel (blank n) 0)
  unfolding passes
  run-first-still-at fuel l = first-still-from M rows (blank n) n busy-blank fuel 0 (omega arith)
      (λ q k. absurd (omega arith))

  pub run-first-still : FirstStill M rows (blank n) (run M rows n)
  unfolding run
  run-first-still = run-first-still-at (suc n) (omega arith)

  pub run-any-fuel : (fuel : ℕ) → n < fuel → run_from M rows fuel (blank n) 0 ≡ run M rows n
  run-any-fuel fuel l = first-still-unique M rows (blank n) _ _ (run-first-still-at fuel l) run-first-still

  pub run_unique : (r : Run) → FirstStill M rows (blank n) r → r ≡ run M rows n
  run_unique r x = first-still-unique M rows (blank n) _ _ x run-first-still

  pub run-good : Good M n rows (run M rows n).state
  run-good =
      rw run-first-still.result (good-passes M n rows w run-first-still.before (blank n) (good-blank M n rows w))

  pub run-fixed : Fixed M rows (run M rows n).state
  run-fixed =
      rw run-first-still.result
      (pass-still M rows (passes M rows run-first-still.before (blank n))
      (omega (arith, ap (λ (u : State). u.last) run-first-still.still))).0

  -- at most one more than the classes that end with a cost
  pub run-passes-le : (run M rows n).passes ≤ costed (run M rows n).state.ranks + 1
  run-passes-le =
      let x = run-first-still in
      let l = busy-le-costed M n rows w (blank n) (good-blank M n rows w) x.before x.busy x.still in
      let e = ap (λ (u : State). costed u.ranks) x.result in
      omega (arith, x.counted)
