-- Laws on the first number that passes a test, and on the search for a name. Assumes nothing.
use Prim.Native.Nat.{ℕ, zero, suc, ◌+◌, ◌-◌, ◌≤◌, ◌<◌}
use mathlib.Core.Path.{◌≡◌, refl, ap, sym, ◌∙◌}
use mathlib.Core.Bool.{Bool, true, false}
use mathlib.Core.List.{List}
use native.Mathlib.Omega.{arith}
use borrow.Author.Tests.{eqb-true, eqb-false, ltb-true, ltb-false}
use lib.Dec.{eqb, ltb}
use Rattle.name.specs.Name.{same}
use Rattle.name.specs.Entries.{name_at, find_from, find_name}
use Rattle.std.specs.Prelude.{Option, Some, None}
use Rattle.term_rules.specs.Adding.{first_from}
use Rattle.term_rules.proofs.TestLaws.{cases, no_both}

pub no_found : {P : Type 0} {j : ℕ} → None ≡ Some j → P
no_found e = let z : ◌≡◌ {A = ℕ} 0 1 = cc in absurd (omega arith)

-- by what a search found
pub found-cases : {P : Type 0} (f : Option ℕ) → ((j : ℕ) → f ≡ Some j → P) → (f ≡ None → P) → P
found-cases (Some j) a m = a j refl
found-cases None a m = m refl

at_same : {i j : ℕ} → Some i ≡ Some j → i ≡ j
at_same e = cc

apart : (i j : ℕ) → (i ≡ j → ⊥) → i ≤ j → i < j
apart i j n h = cases (ltb i j) (λ l. ltb-true i j l) (λ l. absurd (n (omega (arith, ltb-false i j l))))

module _ (p : ℕ → Bool) where
  first-hit : (i n : ℕ) → p i ≡ true → first_from p i (suc n) ≡ Some i
  unfolding first_from
  first-hit i n e = rw (e, first_from)

  first_next : (i n : ℕ) → p i ≡ false → first_from p i (suc n) ≡ first_from p (i + 1) n
  unfolding first_from
  first_next i n e = rw (e, first_from)

  first-none-left : (i : ℕ) → first_from p i 0 ≡ None
  unfolding first_from
  first-none-left i = refl

  -- what a search found
  pub first-at : (n i j : ℕ) → first_from p i n ≡ Some j → (i ≤ j) × (j < i + n) × (p j ≡ true)
  first-at zero i j e = no_found (sym (first-none-left i) ∙ e)
  first-at (suc n) i j e =
      cases (p i)
      (λ t. let d : i ≡ j = at_same (sym (first-hit i n t) ∙ e) in (omega arith, omega arith, rw d at t))
      (λ f. let r = first-at n (i + 1) j (sym (first_next i n f) ∙ e) in (omega arith, omega arith, r.2))

  -- what a search did not find
  pub first-missing : (n i : ℕ) → first_from p i n ≡ None → (j : ℕ) → i ≤ j → j < i + n → p j ≡ false
  first-missing zero i e j h l = absurd (omega arith)
  first-missing (suc n) i e j h l =
      cases (p i) (λ t. no_found (sym e ∙ first-hit i n t))
      (λ f.
      cases (eqb i j) (λ d. rw (eqb-true i j d) at f)
      (λ d.
      first-missing n (i + 1) (sym (first_next i n f) ∙ e) j (omega (arith, apart i j (eqb-false i j d) h))
      (omega arith)))

  pub first-none : (n i : ℕ) → ((j : ℕ) → i ≤ j → j < i + n → p j ≡ false) → first_from p i n ≡ None
  first-none zero i f = first-none-left i
  first-none (suc n) i f =
      first_next i n (f i (omega arith) (omega arith))
      ∙ first-none n (i + 1) (λ j h l. f j (omega arith) (omega arith))

  -- the steps of a loop
  pub first-here : (i n : ℕ) → i < n → p i ≡ true → first_from p i (n - i) ≡ Some i
  first-here i n h e = let m : n - i ≡ suc (n - i - 1) = omega arith in rw m (first-hit i (n - i - 1) e)

  pub first_more : (i n : ℕ) → i < n → p i ≡ false → first_from p (i + 1) (n - (i + 1)) ≡ first_from p i (n - i)
  first_more i n h e = let m : n - i ≡ suc (n - (i + 1)) = omega arith in sym (rw m (first_next i (n - (i + 1)) e))

  pub first-end : (i n : ℕ) → n ≤ i → first_from p i (n - i) ≡ None
  first-end i n h = let m : n - i ≡ 0 = omega arith in rw m (first-none-left i)

  pub first-start : (n : ℕ) → first_from p 0 (n - 0) ≡ first_from p 0 n
  first-start n = let e : n - 0 ≡ n = omega arith in rw e

-- tests that agree find the same
pub first-same :
    (p q : ℕ → Bool) (n i : ℕ) →
    ((j : ℕ) → i ≤ j → j < i + n → p j ≡ q j) →
    first_from p i n ≡ first_from q i n
first-same p q zero i f = first-none-left p i ∙ sym (first-none-left q i)
first-same p q (suc n) i f =
    let e = f i (omega arith) (omega arith) in
    let r = first-same p q n (i + 1) (λ j h l. f j (omega arith) (omega arith)) in
    cases (p i) (λ t. first-hit p i n t ∙ sym (first-hit q i n (sym e ∙ t)))
    (λ d. first_next p i n d ∙ r ∙ sym (first_next q i n (sym e ∙ d)))

-- the only number that passes is found
pub first-unique :
    (p : ℕ → Bool) (n j : ℕ) →
    j < n →
    p j ≡ true →
    ((i : ℕ) → i < n → p i ≡ true → i ≡ j) →
    first_from p 0 n ≡ Some j
first-unique p n j h e once =
    found-cases (first_from p 0 n)
    (λ i d.
    let r = first-at p n 0 i d in
    let q : i ≡ j = once i (omega arith) r.2 in
    d ∙ ap Some q)
    (λ d. no_both (p j) e (first-missing p n 0 d j (omega arith) (omega arith)))

-- a search for a name is such a search
module _ (table name : List ℕ) where
  name-hit : (k n : ℕ) → same (name_at table k) name ≡ true → find_from table name k (suc n) ≡ Some k
  unfolding find_from
  name-hit k n e = rw (e, find_from)

  name-next : (k n : ℕ) → same (name_at table k) name ≡ false
      → find_from table name k (suc n) ≡ find_from table name (k + 1) n
  unfolding find_from
  name-next k n e = rw (e, find_from)

  names-from : (n k : ℕ) → find_from table name k n ≡ first_from (λ (k : ℕ). same (name_at table k) name) k n
  unfolding find_from first_from
  names-from zero k = refl
  names-from (suc n) k =
      let p : ℕ → Bool = λ k. same (name_at table k) name in
      cases (p k) (λ t. name-hit k n t ∙ sym (first-hit p k n t))
      (λ f. name-next k n f ∙ names-from n (k + 1) ∙ sym (first_next p k n f))

  pub find_name-first : (n : ℕ) → find_name table n name ≡ first_from (λ (k : ℕ). same (name_at table k) name) 0 n
  unfolding find_name
  find_name-first n = names-from n 0
