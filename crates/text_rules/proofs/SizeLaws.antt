-- The laws of sizes. Assumes nothing.
use mathlib.Core.Path.{◌≡◌, refl, ap}
use mathlib.Core.List.{List, [], ◌∷◌}
use Prim.Native.Nat.{ℕ, zero, suc, ◌+◌, ◌<◌, min}
use native.Mathlib.Omega.{arith}
use lib.ListN.{length, get_or}
use Rattle.text_rules.specs.Counts.{sum_of, size_in, size}

pub sum_of-step : (g : ℕ → ℕ) (k : ℕ) (ks : List ℕ) → sum_of g (k ∷ ks) ≡ g k + sum_of g ks
unfolding sum_of
sum_of-step g k ks = refl

pub sum_of-none : (g : ℕ → ℕ) → sum_of g [] ≡ 0
unfolding sum_of
sum_of-none g = refl

sum_of-same :
    (g h : ℕ → ℕ) (ks : List ℕ) →
    ((j : ℕ) → j < length ks → g (get_or ks j 0) ≡ h (get_or ks j 0)) →
    sum_of g ks ≡ sum_of h ks
unfolding sum_of
sum_of-same g h [] e = refl
sum_of-same g h (k ∷ ks) e = rw (e 0 (omega arith), sum_of-same g h ks (λ j l. e (suc j) (omega arith)))

-- a sum of numbers that are cut at 4, cut at 4
pub sum_of-capped :
    (g h : ℕ → ℕ) (ks : List ℕ) (x : ℕ) →
    ((j : ℕ) → j < length ks → g (get_or ks j 0) ≡ min 4 (h (get_or ks j 0))) →
    min 4 (x + sum_of g ks) ≡ min 4 (x + sum_of h ks)
sum_of-capped g h [] x e = rw (sum_of-none g, sum_of-none h)
sum_of-capped g h (k ∷ ks) x e =
    let i : min 4 (x + g k + sum_of g ks) ≡ min 4 (x + g k + sum_of h ks) =
    sum_of-capped g h ks (x + g k) (λ j l. e (suc j) (omega arith)) in
    let c : g k ≡ min 4 (h k) = e 0 (omega arith) in
    omega (arith, sum_of-step g k ks, sum_of-step h k ks)

module _
    (kids : ℕ → List ℕ)
    (n : ℕ)
    (lower : (t : ℕ) → t < n → (j : ℕ) → j < length (kids t) → get_or (kids t) j 0 < t)
  where
    size_in-enough : (f g t : ℕ) → t < n → t < f → t < g → size_in kids f t ≡ size_in kids g t
    unfolding size_in
    size_in-enough zero g t k p q = let z : ⊥ = omega arith in absurd z
    size_in-enough (suc f) zero t k p q = let z : ⊥ = omega arith in absurd z
    size_in-enough (suc f) (suc g) t k p q =
        ap (λ (x : ℕ). 1 + x)
        (sum_of-same (size_in kids f) (size_in kids g) (kids t)
        (λ j l.
        let h : get_or (kids t) j 0 < t = lower t k j l in
        size_in-enough f g (get_or (kids t) j 0) (omega arith) (omega arith) (omega arith)))

    pub size_step : (t : ℕ) → t < n → size kids t ≡ 1 + sum_of (size kids) (kids t)
    unfolding size size_in
    size_step t k =
        ap (λ (x : ℕ). 1 + x)
        (sum_of-same (size_in kids t) (size kids) (kids t)
        (λ j l.
        let h : get_or (kids t) j 0 < t = lower t k j l in
        size_in-enough t (suc (get_or (kids t) j 0)) (get_or (kids t) j 0) (omega arith) h (omega arith)))
