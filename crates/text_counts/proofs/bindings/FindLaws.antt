-- The laws of `find`. Assumes nothing.
use mathlib.Core.Path.{◌≡◌, refl, sym, ap, subst, ◌∙◌}
use mathlib.Core.List.{List, [], ◌∷◌, ◌++◌}
use Prim.{Dec, yes, no}
use Prim.Native.Nat.{ℕ, ◌+◌, ◌<◌}
use native.Mathlib.Omega.{arith}
use native.Mathlib.Decide.{ℕ_discrete}
use lib.ListN.{length}
use borrow.Author.Tests.{eq-eqb, ne_eqb}
use Rattle.text_rules.specs.Bindings.{Bound, Place, nowhere, place, find}
use Rattle.text_counts.specs.Met.{place_no}

abbrev pub one : ℕ → ℕ → List Bound
one t i = (record { term = t; indent = i }) ∷ []

pub find-hit : (t n i : ℕ) (bs : List Bound) → find t n ((record { term = t; indent = i }) ∷ bs) ≡ place n
unfolding find
find-hit t n i bs = rw (eq-eqb t t refl, find)

pub find-miss : (t n : ℕ) (b : Bound) (bs : List Bound) → (b.term ≡ t → ⊥) → find t n (b ∷ bs) ≡ find t (n + 1) bs
unfolding find
find-miss t n b bs e = rw (ne_eqb b.term t e, find)

pub find_none : (t n : ℕ) → find t n [] ≡ nowhere
unfolding find
find_none t n = refl

-- a new binding at the end is found there
pub find-last : (t i n : ℕ) (bs : List Bound) → find t n bs ≡ nowhere
    → find t n (bs ++ one t i) ≡ place (n + length bs)
find-last t i n [] e = find-hit t n i [] ∙ ap place (omega arith)
find-last t i n (b ∷ bs) e = by (find-last t i (n + 1) bs) (ℕ_discrete b.term t)
  where
    by :
        (find t (n + 1) bs ≡ nowhere → find t (n + 1) (bs ++ one t i) ≡ place (n + 1 + length bs)) →
        Dec (b.term ≡ t) →
        find t n ((b ∷ bs) ++ one t i) ≡ place (n + length (b ∷ bs))
    by ih (yes q) =
        let w : place n ≡ nowhere =
        sym (subst (λ (x : ℕ). find x n (b ∷ bs) ≡ place n) q (find-hit b.term n b.indent bs)) ∙ e in
        let z : ◌≡◌ {A = ℕ} 0 1 = cc in absurd (omega arith)
    by ih (no q) =
        find-miss t n b (bs ++ one t i) q ∙ (ih (sym (find-miss t n b bs q) ∙ e) ∙ ap place (omega arith))

-- and changes nothing for any other term
pub find-other : (u t i n : ℕ) (bs : List Bound) → (t ≡ u → ⊥) → find u n (bs ++ one t i) ≡ find u n bs
find-other u t i n [] d =
    find-miss u n (record { term = t; indent = i }) [] d ∙ (find_none u (n + 1) ∙ sym (find_none u n))
find-other u t i n (b ∷ bs) d = by (find-other u t i (n + 1) bs d) (ℕ_discrete b.term u)
  where
    by :
        find u (n + 1) (bs ++ one t i) ≡ find u (n + 1) bs →
        Dec (b.term ≡ u) →
        find u n ((b ∷ bs) ++ one t i) ≡ find u n (b ∷ bs)
    by ih (yes q) =
        subst (λ (x : ℕ). find x n ((b ∷ bs) ++ one t i) ≡ find x n (b ∷ bs)) q
        (find-hit b.term n b.indent (bs ++ one t i) ∙ sym (find-hit b.term n b.indent bs))
    by ih (no q) = find-miss u n b (bs ++ one t i) q ∙ (ih ∙ sym (find-miss u n b bs q))

-- a place that is not 0 is a binding's
pub record Placed (p : Place) : Type 0 where
  pub number : ℕ
  pub is : p ≡ place number

pub placed_of : (p : Place) → 0 < place_no p → Placed p
placed_of nowhere l = let z : ⊥ = omega arith in absurd z
placed_of (place q) l = record { number = q; is = refl }

pub nowhere-of : (p : Place) → place_no p ≡ 0 → p ≡ nowhere
nowhere-of nowhere e = refl
nowhere-of (place q) e = let z : ⊥ = omega arith in absurd z
