-- Passes: what each improvement keeps a pass keeps; a pass that gives no rank changes nothing. Assumes nothing.
use mathlib.Core.Path.{◌≡◌, refl, ap, ◌∙◌, subst}
use mathlib.Core.List.{List, [], ◌∷◌}
use mathlib.Core.Logic.{⊎_elim}
use Prim.Native.Nat.{ℕ, suc, zero, ◌+◌, ◌≤◌}
use native.Mathlib.Omega.{arith}
use lib.ListN.{length, length-set}
use Rattle.choice_rules.specs.Rows.{Row}
use Rattle.choice_rules.specs.Run.{State, store, relax, pass, passes}
use Rattle.choice_rules.proofs.ListLaws.{Has, has-head, has-tail, has-cases, has-none}
use Rattle.choice_rules.proofs.RelaxLaws.{Improves, Settled, relax-cases, relax-last}

-- every row is settled
abbrev pub Fixed : ℕ → List Row → State → Type 0
Fixed M rows s = (r : Row) → Has rows r → Settled M s r

module _ (M : ℕ) (rows : List Row) (I : State → Type 0) where
  -- each improvement by one of the rows keeps I
  abbrev pub Keeps : Type 0
  Keeps = (s : State) (r : Row) → Has rows r → Improves M s r → I s → I (store M s r)

  module _ (keeps : Keeps) where
    pub relax-keeps : (s : State) (r : Row) → Has rows r → I s → I (relax M s r)
    relax-keeps s r m i = ⊎_elim (λ p. rw p.1 (keeps s r m p.0 i)) (λ p. rw p.1 i) (relax-cases M s r)

    pub rows-keep : (rs : List Row) → ((r : Row) → Has rs r → Has rows r) → (s : State) → I s → I (pass M rs s)
    unfolding pass
    rows-keep [] sub s i = i
    rows-keep (r ∷ rs) sub s i =
        rows-keep rs (λ q m. sub q (has-tail q r rs m)) (relax M s r) (relax-keeps s r (sub r (has-head r rs)) i)

    pub pass-keeps : (s : State) → I s → I (pass M rows s)
    pass-keeps s i = rows-keep rows (λ q m. m) s i

    pub passes-keep : (p : ℕ) (s : State) → I s → I (passes M rows p s)
    unfolding passes
    passes-keep zero s i = i
    passes-keep (suc p) s i = pass-keeps (passes M rows p s) (passes-keep p s i)

-- a cost and a rank for each of n classes
pub record Sized (n : ℕ) (s : State) : Type 0 where
  pub costs : length s.costs ≡ n
  pub ranks : length s.ranks ≡ n

pub sized-keeps : (M n : ℕ) (rows : List Row) → Keeps M rows (Sized n)
sized-keeps M n rows s r m i z = record { costs = simp length-set z.costs; ranks = simp length-set z.ranks }

module _ (M : ℕ) where
  pub pass-last : (rs : List Row) (s : State)
      → (s.last ≤ (pass M rs s).last) × ((pass M rs s).last ≤ s.last + length rs)
  unfolding pass
  pass-last [] s = (omega arith, omega arith)
  pass-last (r ∷ rs) s =
      let a = relax-last M s r in
      let b = pass-last rs (relax M s r) in
      (omega arith, omega arith)

  pub pass-still : (rs : List Row) (s : State) → (pass M rs s).last ≤ s.last → Fixed M rs s × (pass M rs s ≡ s)
  unfolding pass
  pass-still [] s h = (λ r m. absurd (has-none r m), refl)
  pass-still (r ∷ rs) s h = ⊎_elim
      (λ p. let e = ap (λ (u : State). u.last) p.1 in absurd (omega (arith, (pass-last rs (relax M s r)).0)))
      (λ p. let q = pass-still rs s (subst (λ (u : State). (pass M rs u).last ≤ s.last) p.1 h) in (
        (λ r' m. ⊎_elim (λ e. rw e p.0) (λ m'. q.0 r' m') (has-cases r' r rs m)),
        ap (λ (u : State). pass M rs u) p.1 ∙ q.1,
      ))
      (relax-cases M s r)

  pub pass-of-fixed : (rs : List Row) (s : State) → Fixed M rs s → pass M rs s ≡ s
  unfolding pass
  pass-of-fixed [] s f = refl
  pass-of-fixed (r ∷ rs) s f =
      let ih = pass-of-fixed rs s (λ q m. f q (has-tail q r rs m)) in
      ⊎_elim
      (λ p. let q = f r (has-head r rs) p.0.all-priced in
      absurd (⊎_elim (λ x. omega arith) (λ x. omega arith) p.0.better))
      (λ p. ap (λ (u : State). pass M rs u) p.1 ∙ ih)
      (relax-cases M s r)
