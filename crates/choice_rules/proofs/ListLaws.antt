-- Laws of sums, of tests and facts all through a list, and of the rows that a list has. Assumes nothing.
use mathlib.Core.Path.{◌≡◌, refl, ap, sym}
use mathlib.Core.Bool.{Bool, true, false, ◌&&◌, ◌||◌}
use mathlib.Core.List.Memᴰ
use mathlib.Core.List.{List, [], ◌∷◌, Memᴰ}
use mathlib.Core.Logic.{◌⊎◌, inl, inr, ⊎_elim}
use Prim.Native.Nat.{ℕ, zero, suc, ◌≤◌, ◌<◌}
use native.Mathlib.Omega.{arith}
use native.Mathlib.Decide.{dec_lt}
use lib.ListN.{length, get_or, replicate, get_or-eq_default}
use Rattle.choice_rules.specs.Rows.{Row, row_at, sum_of, all_of, tabulate}

-- tests joined
pub and_cases : (a b : Bool) → (a && b) ≡ true → (a ≡ true) × (b ≡ true)
and_cases true b e = (refl, e)
and_cases false b e = let z : ◌≡◌ {A = ℕ} 0 1 = cc in absurd (omega arith)

pub or_cases : (a b : Bool) → (a || b) ≡ true → (a ≡ true) ⊎ (b ≡ true)
or_cases true b e = inl refl
or_cases false b e = inr e

pub or-fails : (a b : Bool) → (a || b) ≡ false → (a ≡ false) × (b ≡ false)
or-fails true b e = let z : ◌≡◌ {A = ℕ} 0 1 = cc in absurd (omega arith)
or-fails false b e = (refl, e)

-- P holds all through a list
abbrev pub Each : {A : Type 0} → (A → Type 0) → List A → Type 0
Each P [] = Unit {0}
Each P (x ∷ xs) = P x × Each P xs

module _ {A : Type 0} where
  pub each_map : (P Q : A → Type 0) → ((x : A) → P x → Q x) → (xs : List A) → Each P xs → Each Q xs
  each_map P Q f [] e = tt
  each_map P Q f (x ∷ xs) e = (f x e.0, each_map P Q f xs e.1)

  pub each-every : (P : A → Type 0) → ((x : A) → P x) → (xs : List A) → Each P xs
  each-every P f [] = tt
  each-every P f (x ∷ xs) = (f x, each-every P f xs)

  pub each_both : (P Q R : A → Type 0) → ((x : A) → P x → Q x → R x) → (xs : List A) → Each P xs → Each Q xs
      → Each R xs
  each_both P Q R f [] p q = tt
  each_both P Q R f (x ∷ xs) p q = (f x p.0 q.0, each_both P Q R f xs p.1 q.1)

  pub each-mem : (P : A → Type 0) (a : A) (xs : List A) → Memᴰ a xs → Each P xs → P a
  each-mem P a [] m e = absurd (Memᴰ.not-nil m)
  each-mem P a (x ∷ xs) m e = ⊎_elim (λ q. rw q e.0) (λ m'. each-mem P a xs m' e.1) (Memᴰ.cases_cons m)

  pub each-get : (P : A → Type 0) (xs : List A) (d : A) → Each P xs → (j : ℕ) → j < length xs → P (get_or xs j d)
  each-get P [] d e j l = absurd (omega arith)
  each-get P (x ∷ xs) d e zero l = e.0
  each-get P (x ∷ xs) d e (suc j) l = each-get P xs d e.1 j (omega arith)

  pub each-of-sum : (f : A → ℕ) (m : ℕ) (xs : List A) → sum_of f xs < m → Each (λ x. f x < m) xs
  unfolding sum_of
  each-of-sum f m [] h = tt
  each-of-sum f m (x ∷ xs) h = (omega arith, each-of-sum f m xs (omega arith))

  pub all-each : (p : A → Bool) (xs : List A) → all_of p xs ≡ true → Each (λ x. p x ≡ true) xs
  unfolding all_of
  all-each p [] e = tt
  all-each p (x ∷ xs) e = let q = and_cases (p x) (all_of p xs) e in (q.0, all-each p xs q.1)

  pub each_all : (p : A → Bool) (xs : List A) → Each (λ x. p x ≡ true) xs → all_of p xs ≡ true
  unfolding all_of
  each_all p [] e = refl
  each_all p (x ∷ xs) e = rw e.0 (each_all p xs e.1)

  module _ (f g : A → ℕ) where
    pub sum_same : (xs : List A) → Each (λ x. f x ≡ g x) xs → sum_of f xs ≡ sum_of g xs
    unfolding sum_of
    sum_same [] e = refl
    sum_same (x ∷ xs) e = rw (e.0, sum_same xs e.1)

    pub sum-le : (xs : List A) → Each (λ x. f x ≤ g x) xs → sum_of f xs ≤ sum_of g xs
    unfolding sum_of
    sum-le [] e = omega arith
    sum-le (x ∷ xs) e = omega (arith, sum-le xs e.1)

    pub sum_less : (a : A) (xs : List A) → Memᴰ a xs → Each (λ x. f x ≤ g x) xs → f a < g a
        → sum_of f xs < sum_of g xs
    unfolding sum_of
    sum_less a [] m e h = absurd (Memᴰ.not-nil m)
    sum_less a (x ∷ xs) m e h = ⊎_elim
        (λ q. let h' : f x < g x = rw q at h in omega (arith, sum-le xs e.1))
        (λ m'. omega (arith, sum_less a xs m' e.1 h))
        (Memᴰ.cases_cons m)

  pub mem-sum : (f : A → ℕ) (a : A) (xs : List A) → Memᴰ a xs → f a ≤ sum_of f xs
  unfolding sum_of
  mem-sum f a [] m = absurd (Memᴰ.not-nil m)
  mem-sum f a (x ∷ xs) m =
      ⊎_elim (λ q. rw q (omega arith)) (λ m'. omega (arith, mem-sum f a xs m')) (Memᴰ.cases_cons m)

  pub tabulate-length : (f : ℕ → A) (n : ℕ) → length (tabulate f n) ≡ n
  unfolding tabulate
  tabulate-length f zero = refl
  tabulate-length f (suc n) = ap suc (tabulate-length (λ c. f (suc c)) n)

  pub tabulate-get : (f : ℕ → A) (n c : ℕ) (d : A) → c < n → get_or (tabulate f n) c d ≡ f c
  unfolding tabulate
  tabulate-get f zero c d h = absurd (omega arith)
  tabulate-get f (suc n) zero d h = refl
  tabulate-get f (suc n) (suc c) d h = tabulate-get (λ b. f (suc b)) n c d (omega arith)

-- where a list of numbers is not 0 it has an element
pub in-range : (l : List ℕ) (c : ℕ) → 0 < get_or l c 0 → c < length l
in-range l c h = go (dec_lt c (length l))
  where
    go : Dec (c < length l) → c < length l
    go (yes k) = k
    go (no k) = absurd (omega (arith, get_or-eq_default l 0 {n = c} (omega arith)))

pub replicate-get : (n c : ℕ) → ◌≡◌ {A = ℕ} (get_or (replicate n 0) c 0) 0
replicate-get zero c = refl
replicate-get (suc n) zero = refl
replicate-get (suc n) (suc c) = replicate-get n c

-- r is a row of the list
abbrev pub Has : List Row → Row → Type 0
Has rows r = (i : ℕ) × (i < length rows) × (row_at rows i ≡ r)

pub has-head : (r : Row) (rs : List Row) → Has (r ∷ rs) r
has-head r rs = (0, omega arith, refl)

pub has-tail : (q r : Row) (rs : List Row) → Has rs q → Has (r ∷ rs) q
has-tail q r rs h = (suc h.0, omega (arith, h.1), h.2)

pub has-cases : (q r : Row) (rs : List Row) → Has (r ∷ rs) q → (q ≡ r) ⊎ Has rs q
has-cases q r rs h = go h.0 h.1 h.2
  where
    go : (i : ℕ) → i < length (r ∷ rs) → row_at (r ∷ rs) i ≡ q → (q ≡ r) ⊎ Has rs q
    go zero l e = inl (sym e)
    go (suc i) l e = inr (i, omega arith, e)

pub has-none : (q : Row) → Has [] q → ⊥
has-none q h = omega (arith, h.1)
