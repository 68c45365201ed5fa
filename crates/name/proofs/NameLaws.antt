-- Laws on names: one byte more of a walk over a name, or over two. Assumes nothing.
use Prim.Native.Nat.{ℕ, zero, suc, ◌+◌, ◌≤◌, ◌<◌}
use mathlib.Core.Path.{◌≡◌, refl, ap, sym, ◌∙◌}
use mathlib.Core.Bool.{Bool, true, false, ◌&&◌}
use mathlib.Core.List.{List, [], ◌∷◌}
use mathlib.Core.Logic.{◌≢◌}
use native.Mathlib.Numerals.{add-one}
use native.Mathlib.Omega.{arith}
use borrow.Author.Tests.{eq-eqb, ne_eqb}
use lib.Dec.{eqb}
use lib.ListN.{length, get_or, drop}
use lib.Seq.{drop-cons, drop-length}
use Rattle.std.proofs.lemmas.Bool.{eqb-true}
use Rattle.std.specs.Prelude.{nat_eq}
use Rattle.std.specs.List.{list_all}
use Rattle.std.specs.Cmp.Lexicographic.{pointwise}
use Rattle.name.specs.Name.{allowed, all_allowed, same}

-- the test of each byte, and std's equality of lists
pub all_allowed-all : (s : List ℕ) → list_all allowed s ≡ all_allowed s
unfolding all_allowed
all_allowed-all [] = refl
all_allowed-all (b ∷ s) = rw (all_allowed-all s)

pub same-eq : (a b : List ℕ) → pointwise nat_eq a b ≡ same a b
unfolding same
same-eq [] [] = refl
same-eq [] (y ∷ b) = refl
same-eq (x ∷ a) [] = refl
same-eq (x ∷ a) (y ∷ b) = rw (same-eq a b)

and-false : (p : Bool) → (p && false) ≡ false
and-false true = refl
and-false false = refl

-- names of two lengths
pub same_length : (a b : List ℕ) → length a ≢ length b → same a b ≡ false
unfolding same
same_length [] [] n = absurd (n refl)
same_length [] (y ∷ b) n = refl
same_length (x ∷ a) [] n = refl
same_length (x ∷ a) (y ∷ b) n = rw (same_length a b (λ e. n (ap suc e))) (and-false (eqb x y))

-- two bytes that differ, wherever they stand
pub same-apart : (a b : List ℕ) (i : ℕ) → i < length a → i < length b → get_or a i 0 ≢ get_or b i 0 → same a b ≡ false
unfolding same
same-apart [] b i h k n = absurd (omega arith)
same-apart (x ∷ a) [] i h k n = absurd (omega arith)
same-apart (x ∷ a) (y ∷ b) zero h k n = rw (ne_eqb x y n)
same-apart (x ∷ a) (y ∷ b) (suc i) h k n =
    rw (same-apart a b i (omega arith) (omega arith) n) (and-false (eqb x y))

-- one byte more of a walk over two names, and the end of it
pub drop-end : (s : List ℕ) (i : ℕ) → i ≤ length s → length s ≤ i → drop i s ≡ []
drop-end s i h k = let e : i ≡ length s = omega arith in rw e (drop-length s)

module _ (a b : List ℕ) (i : ℕ) where
  pub same_drop :
      i < length a →
      i < length b →
      same (drop i a) (drop i b) ≡ (eqb (get_or a i 0) (get_or b i 0) && same (drop (i + 1) a) (drop (i + 1) b))
  unfolding same
  same_drop h k = rw (add-one, drop-cons a i 0, drop-cons b i 0)

  pub same_more :
      i < length a →
      i < length b →
      get_or a i 0 ≡ get_or b i 0 →
      same (drop (i + 1) a) (drop (i + 1) b) ≡ same (drop i a) (drop i b)
  same_more h k e = sym (same_drop h k ∙ rw (eq-eqb (get_or a i 0) (get_or b i 0) e))

  pub same_end : i ≤ length a → length a ≤ i → length a ≡ length b → same (drop i a) (drop i b) ≡ true
  unfolding same
  same_end h k e =
      let p : i ≤ length b = omega arith in
      let q : length b ≤ i = omega arith in
      rw (drop-end a i h k, drop-end b i p q)

-- two names of which something differs that their bytes tell
pub same-told : (told : List ℕ → ℕ) (a b : List ℕ) → told a ≢ told b → same a b ≡ false
unfolding same
same-told told [] [] n = absurd (n refl)
same-told told [] (y ∷ b) n = refl
same-told told (x ∷ a) [] n = refl
same-told told (x ∷ a) (y ∷ b) n = by (eqb x y) refl (same-told (λ (s : List ℕ). told (x ∷ s)) a b)
  where
    by : (t : Bool) → eqb x y ≡ t → (told (x ∷ a) ≢ told (x ∷ b) → same a b ≡ false) → same (x ∷ a) (y ∷ b) ≡ false
    by true e rest =
        let first : told (x ∷ b) ≡ told (y ∷ b) = ap (λ (z : ℕ). told (z ∷ b)) (eqb-true x y e) in
        rw e (rest (λ r. n (r ∙ first)))
    by false e rest = rw e
