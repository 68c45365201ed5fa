-- Laws of membership, of different numbers and their pigeonhole. Assumes nothing.
use Prim.Native.Nat.{ℕ, suc, zero, ◌+◌, ◌≤◌, ◌<◌}
use mathlib.Core.Path.{◌≡◌, refl, sym, ◌∙◌}
use mathlib.Core.Bool.{Bool, true, false, cond, ◌&&◌, ◌||◌}
use mathlib.Core.List.{List, [], ◌∷◌, ◌++◌}
use native.Mathlib.Omega.{arith}
use native.Mathlib.Numerals.{add-one}
use borrow.Author.Tests.{ltb-true, ltb-false, eqb-true, eqb-false, eq-eqb, ne_eqb}
use lib.Dec.{eqb, ltb}
use lib.ListN.{length, get_or, take, drop, set}
use lib.Seq.{drop-cons, take-suc-set}
use Rattle.std.specs.List.{list_any}
use Rattle.table_rules.specs.Order.{has, Apart, none, more}

-- By the two values of a test.
pub by-test : {P : Type 0} (b : Bool) → (b ≡ true → P) → (b ≡ false → P) → P
by-test true t f = t refl
by-test false t f = f refl

pub no_both : {P : Type 0} (b : Bool) → b ≡ true → b ≡ false → P
no_both b t f = let z : ◌≡◌ {A = ℕ} 0 1 = cc in absurd (omega arith)

pub or-false : (b c : Bool) → b || c ≡ false → (b ≡ false) × (c ≡ false)
or-false true c e = no_both true refl e
or-false false c e = (refl, e)

pub and-true : (b c : Bool) → b && c ≡ true → (b ≡ true) × (c ≡ true)
and-true true c e = (refl, e)
and-true false c e = no_both false e refl

pub drop-step : (l : List ℕ) (i : ℕ) → i < length l → drop i l ≡ get_or l i 0 ∷ drop (i + 1) l
drop-step l i h = rw add-one (drop-cons l i 0 h)

pub take-set-last : (l : List ℕ) (m a : ℕ) → m < length l → take (m + 1) (set l m a) ≡ take m l ++ (a ∷ [])
take-set-last l m a h = rw add-one (take-suc-set l m a h)

pub has-append : (a : ℕ) (l r : List ℕ) → has a (l ++ r) ≡ has a l || has a r
unfolding has
has-append a [] r = refl
has-append a (x ∷ l) r = by-test (eqb x a) (λ e. rw e) (λ e. rw e (has-append a l r))

pub has_first : (x y : ℕ) (l : List ℕ) → y ≡ x → has x (y ∷ l) ≡ true
unfolding has
has_first x y l e = rw (eq-eqb y x e)

pub has-later : (x y : ℕ) (l : List ℕ) → has x l ≡ true → has x (y ∷ l) ≡ true
unfolding has
has-later x y l h = by-test (eqb y x) (λ e. rw e) (λ e. rw (e, h))

-- What is in y ∷ l is y or in l.
pub has-cons : {P : Type 0} (x y : ℕ) (l : List ℕ) → has x (y ∷ l) ≡ true → (y ≡ x → P) → (has x l ≡ true → P) → P
unfolding has
has-cons x y l h f g = by-test (eqb y x) (λ e. f (eqb-true y x e)) (λ e. g (rw e at h))

pub has-nil : {P : Type 0} (x : ℕ) → has x [] ≡ true → P
unfolding has
has-nil x h = no_both false h refl

pub has_either :
    {P : Type 0} (x : ℕ) (l r : List ℕ) → has x (l ++ r) ≡ true → (has x l ≡ true → P) → (has x r ≡ true → P) → P
has_either x l r h f g = by-test (has x l) f (λ e. g (let t = sym (has-append x l r) ∙ h in rw e at t))

pub has_left : (x : ℕ) (l r : List ℕ) → has x l ≡ true → has x (l ++ r) ≡ true
has_left x l r h = has-append x l r ∙ rw h

pub has_right : (x : ℕ) (l r : List ℕ) → has x r ≡ true → has x (l ++ r) ≡ true
has_right x l r h = has-append x l r ∙ by-test (has x l) (λ e. rw e) (λ e. rw (e, h))

pub has-false : (x : ℕ) (l : List ℕ) → (has x l ≡ true → ⊥) → has x l ≡ false
has-false x l n = by-test (has x l) (λ e. absurd (n e)) (λ e. e)

pub has-get : (l : List ℕ) (i : ℕ) → i < length l → has (get_or l i 0) l ≡ true
has-get [] i h = absurd (omega arith)
has-get (x ∷ l) zero h = has_first x x l refl
has-get (x ∷ l) (suc i) h = has-later (get_or l i 0) x l (has-get l i (omega arith))

pub has-place : (x : ℕ) (l : List ℕ) → has x l ≡ true → (p : ℕ) × (p < length l) × (get_or l p 0 ≡ x)
has-place x [] h = has-nil x h
has-place x (y ∷ l) h =
    has-cons x y l h (λ e. (0, omega arith, e)) (λ t. let r = has-place x l t in (
      suc r.0,
      omega
          (arith, r.1),
      r.2,
    ))

-- What a slice's `contains` answers.
pub has-any : (a : ℕ) (l : List ℕ) → list_any (λ y. eqb y a) l ≡ has a l
unfolding has
has-any a [] = refl
has-any a (x ∷ l) = rw (has-any a l)

pub apart-last : {n : ℕ} (a : ℕ) (q : List ℕ) → Apart n q → a < n → has a q ≡ false → Apart n (q ++ (a ∷ []))
unfolding has
apart-last a [] none l h = more l refl none
apart-last a (x ∷ xs) (more lx hx r) l h =
    let o = or-false (eqb x a) (has a xs) h in
    let d : eqb a x ≡ false = ne_eqb a x (λ e. eqb-false x a o.0 (sym e)) in
    more lx (has-append x xs (a ∷ []) ∙ rw (hx, d)) (apart-last a xs r l o.1)

pub apart-append :
    (n : ℕ) (l r : List ℕ) → Apart n l → Apart n r → ((x : ℕ) → has x l ≡ true → has x r ≡ false) → Apart n (l ++ r)
apart-append n [] r none v d = v
apart-append n (x ∷ l) r (more lx hx u) v d =
    more lx
    (has-append x l r ∙ rw (hx, d x (has_first x x l refl)))
    (apart-append n l r u v (λ y h. d y (has-later y x l h)))

pub apart_below : (n : ℕ) (l : List ℕ) → Apart n l → (x : ℕ) → has x l ≡ true → x < n
apart_below n [] none x h = has-nil x h
apart_below n (y ∷ l) (more ly hy r) x h = has-cons x y l h (λ e. omega arith) (λ t. apart_below n l r x t)

-- The list without the first a.
without : ℕ → List ℕ → List ℕ
without a [] = []
without a (x ∷ xs) = cond (eqb x a) xs (x ∷ without a xs)

without-has : (a y : ℕ) (l : List ℕ) → has y l ≡ false → has y (without a l) ≡ false
unfolding has without
without-has a y [] h = refl
without-has a y (x ∷ xs) h =
    let o = or-false (eqb x y) (has y xs) h in
    by-test (eqb x a) (λ e. rw e o.1) (λ e. rw (e, o.0) (without-has a y xs o.1))

without-length : (a : ℕ) (l : List ℕ) → length l ≤ suc (length (without a l))
unfolding without
without-length a [] = omega arith
without-length a (x ∷ xs) =
    by-test (eqb x a) (λ e. rw e (omega arith)) (λ e. rw e (omega (arith, without-length a xs)))

below-when-other : (n x : ℕ) → x < suc n → eqb x n ≡ false → x < n
below-when-other n x l e =
    let d = eqb-false x n e in
    by-test (ltb x n) (λ t. ltb-true x n t) (λ t. absurd (d (omega (arith, ltb-false x n t))))

apart-lower : (n : ℕ) (l : List ℕ) → Apart (suc n) l → has n l ≡ false → Apart n l
unfolding has
apart-lower n [] none h = none
apart-lower n (x ∷ xs) (more lx hx r) h =
    let o = or-false (eqb x n) (has n xs) h in
    more (below-when-other n x lx o.0) hx (apart-lower n xs r o.1)

apart-without : (n : ℕ) (l : List ℕ) → Apart (suc n) l → Apart n (without n l)
unfolding without
apart-without n [] none = none
apart-without n (x ∷ xs) (more lx hx r) =
    by-test (eqb x n)
    (λ e. rw e (apart-lower n xs r (rw (eqb-true x n e) at hx)))
    (λ e. rw e (more (below-when-other n x lx e) (without-has n x xs hx) (apart-without n xs r)))

-- Different numbers below n are at most n.
pub apart-length : (n : ℕ) (l : List ℕ) → Apart n l → length l ≤ n
apart-length zero [] none = omega arith
apart-length zero (x ∷ xs) (more lx hx r) = absurd (omega arith)
apart-length (suc n) l r = omega (arith, without-length n l, apart-length n (without n l) (apart-without n l r))
