-- Counting: where each of n different things has a number below m, and no two the same, n is at most m. Assumes
-- nothing.
use Prim.Native.Nat.{ℕ, zero, suc, ◌≤◌, ◌<◌}
use mathlib.Core.Path.{◌≡◌, refl, sym, subst, ◌∙◌}
use mathlib.Core.Bool.{true, false}
use native.Mathlib.Omega.{arith}
use lib.Dec.{eqb, ltb}
use borrow.Author.Tests.{eqb-true, eqb-false, eq-eqb, ne_eqb, ltb-true, ltb-false}
use Rattle.term_rules.proofs.TestLaws.{cases}

-- number a has the place m
moved : ℕ → ℕ → ℕ → ℕ
moved a m j = elim (eqb j a) [ true ↦ m | false ↦ j ]

moved_at : (a m : ℕ) → moved a m a ≡ m
unfolding moved
moved_at a m = rw (eq-eqb a a refl, moved)

moved-else : (a m j : ℕ) → (j ≡ a → ⊥) → moved a m j ≡ j
unfolding moved
moved-else a m j n = rw (ne_eqb j a n, moved)

-- a number below m that is i's
abbrev pub Placed : (ℕ → ℕ → Type 0) → ℕ → ℕ → Type 0
Placed R m i = (j : ℕ) × (j < m) × R i j

module _ (R : ℕ → ℕ → Type 0) (m n a : ℕ) (l : a < suc m) (q : R n a) where
  -- without the last thing and its number a, whose place m takes
  placed-else :
      (i : ℕ) → i < n → ((j : ℕ) → R i j → R n j → i ≡ n) → Placed R (suc m) i →
      Placed (λ (i j : ℕ). R i (moved a m j)) m i
  placed-else i h once p =
      let apart : p.0 ≡ a → ⊥ = λ z. let e : i ≡ n = once a (subst (R i) z p.2) q in omega (arith, e) in
      cases (eqb p.0 m)
      (λ e.
      let d : p.0 ≡ m = eqb-true p.0 m e in
      let b : a ≡ m → ⊥ = λ z. apart (d ∙ sym z) in
      (a, omega arith, subst (R i) (d ∙ sym (moved_at a m)) p.2))
      (λ e.
      let d : p.0 ≡ m → ⊥ = eqb-false p.0 m e in
      (p.0, omega (arith, p.1), subst (R i) (sym (moved-else a m p.0 apart)) p.2))

pub pigeonhole :
    (m n : ℕ) (R : ℕ → ℕ → Type 0) →
    ((i : ℕ) → i < n → Placed R m i) →
    ((i k j : ℕ) → i < n → k < n → R i j → R k j → i ≡ k) →
    n ≤ m
pigeonhole m zero R f once = omega arith
pigeonhole zero (suc n) R f once = absurd (omega (arith, (f n (omega arith)).1))
pigeonhole (suc m) (suc n) R f once =
    let p = f n (omega arith) in
    let l : n ≤ m =
    pigeonhole m n (λ (i j : ℕ). R i (moved p.0 m j))
    (λ i h.
    placed-else R m n p.0 p.1 p.2 i h
    (λ j a b. once i n j (omega arith) (omega arith) a b) (f i (omega arith)))
    (λ i k j h l a b. once i k (moved p.0 m j) (omega arith) (omega arith) a b) in
    omega arith

-- n different things and one more
module _
    {A : Type 0} (P : ℕ → A → Type 0) (one : (j : ℕ) (a b : A) → P j a → P j b → a ≡ b)
    (m n : ℕ) (F : ℕ → A) (x : A)
    (apart : (i k : ℕ) → i < n → k < n → F i ≡ F k → i ≡ k)
    (new : (i : ℕ) → i < n → F i ≡ x → ⊥) where
  joined : ℕ → A
  joined i = elim (ltb i n) [ true ↦ F i | false ↦ x ]

  joined-old : (i : ℕ) → ltb i n ≡ true → joined i ≡ F i
  unfolding joined
  joined-old i e = rw (e, joined)

  joined-new : (i : ℕ) → ltb i n ≡ false → joined i ≡ x
  unfolding joined
  joined-new i e = rw (e, joined)

  joined-apart : (i k : ℕ) → i < suc n → k < suc n → joined i ≡ joined k → i ≡ k
  joined-apart i k h l e =
      cases (ltb i n)
      (λ p.
      cases (ltb k n)
      (λ q. apart i k (ltb-true i n p) (ltb-true k n q) (sym (joined-old i p) ∙ e ∙ joined-old k q))
      (λ q. absurd (new i (ltb-true i n p) (sym (joined-old i p) ∙ e ∙ joined-new k q))))
      (λ p.
      cases (ltb k n)
      (λ q. absurd (new k (ltb-true k n q) (sym (joined-old k q) ∙ sym e ∙ joined-new i p)))
      (λ q. omega (arith, ltb-false i n p, ltb-false k n q)))

  pub one_more : ((i : ℕ) → i < n → (j : ℕ) × (j < m) × P j (F i)) → (j : ℕ) × (j < m) × P j x → n < m
  one_more f p =
      let l : suc n ≤ m =
      pigeonhole m (suc n) (λ (i j : ℕ). P j (joined i))
      (λ i h.
      cases (ltb i n)
      (λ e. let q = f i (ltb-true i n e) in (q.0, q.1, subst (P q.0) (sym (joined-old i e)) q.2))
      (λ e. (p.0, p.1, subst (P p.0) (sym (joined-new i e)) p.2)))
      (λ i k j h l a b. joined-apart i k h l (one j (joined i) (joined k) a b)) in
      omega arith
