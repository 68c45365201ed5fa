-- Laws on lists: zeros, bounds, and a record's children. Assumes nothing.
use Prim.Native.Nat.{ℕ, zero, suc, ◌-◌, ◌≤◌, ◌<◌}
use mathlib.Core.Path.{◌≡◌, refl, sym}
use mathlib.Core.Bool.{true}
use mathlib.Core.List.{List, [], ◌∷◌}
use native.Mathlib.Omega.{arith}
use borrow.Author.Tests.{eqb-true, eq-eqb, ltb-true, lt-ltb}
use lib.Dec.{eqb, ltb}
use lib.ListN.{length, get_or, take, drop, length-take, get_or-eq_default}
use lib.Seq.{take-nil, drop-nil}
use Rattle.term_rules.specs.WellFormed.{all_zero, all_below}
use Rattle.term_rules.proofs.TestLaws.{and_first, and_second, and_both}

pub all_zero-get : (l : List ℕ) → all_zero l ≡ true → (j : ℕ) → get_or l j 0 ≡ 0
unfolding all_zero
all_zero-get [] e j = refl
all_zero-get (x ∷ l) e zero = eqb-true x 0 (and_first (eqb x 0) (all_zero l) e)
all_zero-get (x ∷ l) e (suc j) = all_zero-get l (and_second (eqb x 0) (all_zero l) e) j

pub all_zero-of : (l : List ℕ) → ((j : ℕ) → j < length l → get_or l j 0 ≡ 0) → all_zero l ≡ true
unfolding all_zero
all_zero-of [] f = refl
all_zero-of (x ∷ l) f =
    and_both (eqb x 0) (all_zero l) (eq-eqb x 0 (f 0 (omega arith))) (all_zero-of l (λ j h. f (suc j) (omega arith)))

module _ (n : ℕ) where
  pub all_below-get : (l : List ℕ) → all_below n l ≡ true → (j : ℕ) → j < length l → get_or l j 0 < n
  unfolding all_below
  all_below-get [] e j h = absurd (omega arith)
  all_below-get (x ∷ l) e zero h = ltb-true x n (and_first (ltb x n) (all_below n l) e)
  all_below-get (x ∷ l) e (suc j) h = all_below-get l (and_second (ltb x n) (all_below n l) e) j (omega arith)

  pub all_below-of : (l : List ℕ) → ((j : ℕ) → j < length l → get_or l j 0 < n) → all_below n l ≡ true
  unfolding all_below
  all_below-of [] f = refl
  all_below-of (x ∷ l) f =
      and_both (ltb x n) (all_below n l) (lt-ltb x n (f 0 (omega arith)))
      (all_below-of l (λ j h. f (suc j) (omega arith)))

-- past a part there is the default
pub get_d-take-past : (n : ℕ) (l : List ℕ) (j : ℕ) → n ≤ j → get_or (take n l) j 0 ≡ 0
get_d-take-past n l j h = get_or-eq_default (take n l) 0 (omega (arith, length-take n l))

-- a part of a part
pub drop-take : (c n : ℕ) (l : List ℕ) → drop c (take n l) ≡ take (n - c) (drop c l)
drop-take zero n l = let e : n - 0 ≡ n = omega arith in rw e
drop-take (suc c) zero l = let e : 0 - suc c ≡ 0 = omega arith in rw e (drop-nil (suc c))
drop-take (suc c) (suc n) [] = sym (take-nil (suc n - suc c))
drop-take (suc c) (suc n) (x ∷ l) = let e : suc n - suc c ≡ n - c = omega arith in rw e (drop-take c n l)
