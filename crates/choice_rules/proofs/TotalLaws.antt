-- Sums over the classes 0, 1, .. below n. Assumes nothing.
use mathlib.Core.Path.{◌≡◌, refl}
use mathlib.Core.List.{List, [], ◌∷◌}
use Prim.Native.Nat.{ℕ, suc, zero, ◌+◌, ◌≤◌, ◌<◌}
use native.Mathlib.Omega.{arith}
use native.Mathlib.Decide.{dec_lt}
use lib.ListN.{length, get_or}
use Rattle.choice_rules.specs.Rows.{sum_of}

unfoldable pub total : (ℕ → ℕ) → ℕ → ℕ
total g zero = 0
total g (suc n) = g 0 + total (λ c. g (suc c)) n

pub total-of-list : (f : ℕ → ℕ) (l : List ℕ) → total (λ c. f (get_or l c 0)) (length l) ≡ sum_of f l
unfolding total sum_of
total-of-list f [] = refl
total-of-list f (x ∷ l) = rw (total-of-list f l)

pub total-le : (g h : ℕ → ℕ) (n : ℕ) → ((c : ℕ) → g c ≤ h c) → total g n ≤ total h n
unfolding total
total-le g h zero f = omega arith
total-le g h (suc n) f = omega (arith, f 0, total-le (λ c. g (suc c)) (λ c. h (suc c)) n (λ c. f (suc c)))

-- where the sums are equal, the parts are
pub total-tight : (g h : ℕ → ℕ) (n : ℕ) → ((c : ℕ) → g c ≤ h c) → total h n ≤ total g n → (c : ℕ) → c < n → h c ≤ g c
unfolding total
total-tight g h zero f t c l = absurd (omega arith)
total-tight g h (suc n) f t zero l = omega (arith, total-le (λ c. g (suc c)) (λ c. h (suc c)) n (λ c. f (suc c)))
total-tight g h (suc n) f t (suc c) l =
    total-tight (λ c. g (suc c)) (λ c. h (suc c)) n (λ c. f (suc c)) (omega (arith, f 0)) c (omega arith)

pub total-less : (g h : ℕ → ℕ) (n : ℕ) → ((c : ℕ) → g c ≤ h c) → (d : ℕ) → d < n → g d < h d → total g n < total h n
total-less g h n f d l k = go (dec_lt (total g n) (total h n))
  where
    go : Dec (total g n < total h n) → total g n < total h n
    go (yes x) = x
    go (no x) = absurd (omega (arith, total-tight g h n f (omega arith) d l))

pub total-of-ones : (g : ℕ → ℕ) (n : ℕ) → ((c : ℕ) → g c ≤ 1) → total g n ≤ n
unfolding total
total-of-ones g zero f = omega arith
total-of-ones g (suc n) f = omega (arith, total-of-ones (λ c. g (suc c)) n (λ c. f (suc c)), f 0)
