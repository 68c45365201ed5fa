-- What is kept goes by the keys of the rows that are asked, and each kept row is one of them. Assumes nothing.
use mathlib.Core.Path.{◌≡◌, refl, sym, ◌∙◌, subst}
use mathlib.Core.Bool.{Bool, true}
use mathlib.Core.List.{List, ◌∷◌}
use Prim.{Dec, yes, no}
use Prim.Native.Nat.{ℕ, ◌<◌}
use native.Mathlib.Decide.{ℕ_discrete}
use native.Mathlib.Omega.{arith}
use lib.ListN.{length, get_or, take, length-take}
use lib.Seq.{get_or-take}
use Rattle.order.specs.Lawful.{Linear}
use Rattle.order.specs.Sort.{count, Sorted, none, more, sorted}
use Rattle.order.proofs.Sorting.CountLaws.{count_same, count-other, count-get, place-of-count}
use Rattle.order.proofs.Sorting.SortLaws.{sorted-same, sorted-sorted, sorted-when}
use Rattle.table_rules.specs.Order.{has, picked}
use Rattle.table_rules.proofs.HasLaws.{has-get}
use Rattle.table_rules.proofs.PickedLaws.{Passes, picked-has}
use Rattle.variant_order.specs.Keys.{Key, compare_rows, no_later}
use Rattle.variant_order.specs.Arrays.{AllBelow}
use Rattle.variant_order.proofs.RankLaws.{no_later-linear}

-- a number that stands in a list stands in it with one more before it
count-later : (y x : ℕ) (l : List ℕ) → 0 < count y l → 0 < count y (x ∷ l)
count-later y x l h = go (ℕ_discrete x y)
  where
    go : Dec (x ≡ y) → 0 < count y (x ∷ l)
    go (yes e) = omega (arith, count_same y x l e)
    go (no e) = omega (arith, h, count-other y x l e)

-- sorted by one order is sorted by another that agrees with it on these numbers
module _ (n : ℕ) (le le' : ℕ → ℕ → Bool) (same : (x y : ℕ) → x < n → y < n → le x y ≡ le' x y) where
  resort : {l : List ℕ} → Sorted le l → ((y : ℕ) → 0 < count y l → y < n) → Sorted le' l
  resort none b = none
  resort (more {x = x} {l = l} low s) b =
      let first : x < n = b x (omega (arith, count_same x x l refl)) in
      more (λ y c. sym (same x y first (b y (count-later y x l c))) ∙ low y c) (resort s (λ y c. b y (count-later y x
      l c)))

  pub sorted-agrees : Linear le → Linear le' → (l : List ℕ) → AllBelow n l → sorted le l ≡ sorted le' l
  sorted-agrees o o' l b =
      sorted-when le' o' (sorted le l) l
      (resort (sorted-sorted le o l) (λ y c.
      let q = place-of-count y l (subst (λ (k : ℕ). 0 < k) (sorted-same le o l y) c) in
      subst (λ (z : ℕ). z < n) q.1.1 (b q.0 q.1.0)))
      (sorted-same le o l)

-- the order of rows goes by their keys
pub no_later-agrees : (k k' : ℕ → Key) (a b : ℕ) → k a ≡ k' a → k b ≡ k' b → no_later k a b ≡ no_later k' a b
unfolding compare_rows
no_later-agrees k k' a b e f = rw (e, f)

pub sorted-by-keys :
    (n : ℕ) (k k' : ℕ → Key) →
    ((i : ℕ) → i < n → k i ≡ k' i) →
    (l : List ℕ) →
    AllBelow n l →
    sorted (no_later k) l ≡ sorted (no_later k') l
sorted-by-keys n k k' e l b =
    sorted-agrees n (no_later k) (no_later k') (λ x y h j. no_later-agrees k k' x y (e x h) (e y j)) (no_later-linear k)
    (no_later-linear k') l b

-- what is kept was picked
pub kept-passes :
    (k : ℕ → Key) (p : ℕ → Bool) (n most j : ℕ) →
    j < length (take most (sorted (no_later k) (picked p 0 n))) →
    Passes p (get_or (take most (sorted (no_later k) (picked p 0 n))) j 0) 0 n
kept-passes k p n most j h =
    let l : List ℕ = picked p 0 n in
    let x : List ℕ = sorted (no_later k) l in
    let m : length (take most x) ≡ _ = length-take most x in
    let e : get_or (take most x) j 0 ≡ get_or x j 0 = get_or-take most x j 0 (omega (arith, h, m)) in
    let q = place-of-count (get_or x j 0) l
    (subst (λ (c : ℕ). 0 < c) (sorted-same (no_later k) (no_later-linear k) l (get_or x j 0))
    (count-get x j (omega (arith, h, m)))) in
    subst (λ (z : ℕ). Passes p z 0 n) (sym e)
    (picked-has p (get_or x j 0) 0 n (subst (λ (z : ℕ). has z l ≡ true) q.1.1 (has-get l q.0 q.1.0)))
