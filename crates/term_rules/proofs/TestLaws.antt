-- Laws on tests: by cases, of a conjunction, and of every number below a bound. Assumes nothing.
use Prim.Native.Nat.{ℕ, zero, suc, ◌+◌, ◌≤◌, ◌<◌}
use mathlib.Core.Path.{◌≡◌, refl, sym}
use mathlib.Core.Bool.{Bool, true, false, ◌&&◌}
use native.Mathlib.Numerals.{add-one}
use native.Mathlib.Omega.{arith}
use lib.Dec.{ltb}
use borrow.Author.Tests.{ltb-true, ltb-false}
use Rattle.term_rules.specs.WellFormed.{every}

-- by the two values of a test
pub cases : {P : Type 0} (b : Bool) → (b ≡ true → P) → (b ≡ false → P) → P
cases true t f = t refl
cases false t f = f refl

pub no_both : {P : Type 0} (b : Bool) → b ≡ true → b ≡ false → P
no_both b t f = let z : ◌≡◌ {A = ℕ} 0 1 = cc in absurd (omega arith)

pub and_first : (a b : Bool) → (a && b) ≡ true → a ≡ true
and_first true b e = refl
and_first false b e = e

pub and_second : (a b : Bool) → (a && b) ≡ true → b ≡ true
and_second true b e = e
and_second false b e = no_both false e refl

pub and_both : (a b : Bool) → a ≡ true → b ≡ true → (a && b) ≡ true
and_both a b e f = rw e f

pub and-false : (a b : Bool) → b ≡ false → (a && b) ≡ false
and-false true b e = e
and-false false b e = refl

-- two tests that say yes together are the same
pub same_test : (a b : Bool) → (a ≡ true → b ≡ true) → (b ≡ true → a ≡ true) → a ≡ b
same_test true b f g = sym (f refl)
same_test false true f g = g refl
same_test false false f g = refl

module _ (p : ℕ → Bool) where
  pub every_get : (n : ℕ) → every n p ≡ true → (i : ℕ) → i < n → p i ≡ true
  unfolding every
  every_get zero e i h = absurd (omega arith)
  every_get (suc n) e i h =
      cases (ltb i n)
      (λ l. every_get n (and_first (every n p) (p n) e) i (ltb-true i n l))
      (λ l.
      let d : i ≡ n = omega (arith, ltb-false i n l) in
      rw d (and_second (every n p) (p n) e))

  pub every_of : (n : ℕ) → ((i : ℕ) → i < n → p i ≡ true) → every n p ≡ true
  unfolding every
  every_of zero f = refl
  every_of (suc n) f =
      and_both (every n p) (p n) (every_of n (λ i h. f i (omega arith))) (f n (omega arith))

  pub every_more : (i : ℕ) → every i p ≡ true → p i ≡ true → every (i + 1) p ≡ true
  unfolding every
  every_more i e f = rw add-one (and_both (every i p) (p i) e f)

  pub every-fails : (n i : ℕ) → i < n → p i ≡ false → every n p ≡ false
  every-fails n i h e =
      cases (every n p) (λ t. no_both (p i) (every_get n t i h) e) (λ f. f)

  pub every-start : every 0 p ≡ true
  unfolding every
  every-start = refl

  pub every-end : (i n : ℕ) → i ≤ n → n ≤ i → every i p ≡ true → every n p ≡ true
  every-end i n h k e = let d : i ≡ n = omega arith in rw d at e

-- tests that agree below a bound
pub every-same : (n : ℕ) (p q : ℕ → Bool) → ((i : ℕ) → i < n → p i ≡ q i) → every n p ≡ every n q
unfolding every
every-same zero p q f = refl
every-same (suc n) p q f = rw (every-same n p q (λ i h. f i (omega arith)), f n (omega arith))
