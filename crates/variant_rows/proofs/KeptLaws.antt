-- Laws on the kept rows: the first of what is sorted. Assumes nothing.
use mathlib.Core.Path.{◌≡◌, refl, sym, ap, subst, ◌∙◌}
use mathlib.Core.Bool.{Bool}
use mathlib.Core.List.{List, ◌++◌}
use Prim.{Dec, yes, no}
use Prim.Native.Nat.{ℕ, ◌<◌, ◌≤◌, min}
use native.Mathlib.Decide.{dec_lt}
use native.Mathlib.Omega.{arith}
use lib.ListN.{length, get_or, take, drop, length-append}
use lib.Seq.{take_all, take-append-le, length-take-le}
use Rattle.order.specs.Sort.{sorted}
use Rattle.order.proofs.Sorting.SortLaws.{sorted-length}
use Rattle.table_rules.specs.Order.{picked}
use Rattle.table_rules.specs.Arrays.{Filled}
use Rattle.table_rules.proofs.HasLaws.{has-get}
use Rattle.table_rules.proofs.PickedLaws.{picked-has}
use Rattle.variant_order.specs.Keys.{no_later}
use Rattle.variant_order.specs.Arrays.{key_in, AllBelow}
use Rattle.variant_order.proofs.RankLaws.{no_later-linear}
use Rattle.variant_rows.specs.Candidates.{PartsIn}

-- what is picked is below n
pub picked-below : (p : ℕ → Bool) (n : ℕ) → AllBelow n (picked p 0 n)
picked-below p n i h =
    let q = picked-has p (get_or (picked p 0 n) i 0) 0 n (has-get (picked p 0 n) i h) in
    omega (arith, q.high)

-- the smaller of the length and the number asked for is enough
take_min : {A : Type 0} (most m : ℕ) (l : List A) → length l ≡ m → take (min most m) l ≡ take most l
take_min most m l e = go (dec_lt most m)
  where
    go : Dec (most < m) → take (min most m) l ≡ take most l
    go (yes h) = let q : min most m ≡ most = omega arith in rw q refl
    go (no h) =
        let q : min most m ≡ m = omega (arith, h) in
        rw q (take_all m l (omega arith) ∙ sym (take_all most l (omega (arith, h))))

-- the front of the list that was sorted in part
module _
    (prices rows labels cells : List ℕ) (p : ℕ → Bool) (n most m k : ℕ) (list front : List ℕ)
    (f : Filled list m (picked p 0 n)) (e : k ≡ min most m) where
  abbrev le : ℕ → ℕ → Bool
  le = no_later (key_in prices rows labels cells)

  count : length (picked p 0 n) ≡ m
  count = ap (λ (l : List ℕ). length l) (sym f.held) ∙ length-take-le m list f.room

  pub front_below : AllBelow n (take m list)
  front_below = subst (AllBelow n) (sym f.held) (picked-below p n)

  pub front-room : length front ≡ length (take m list) → k ≤ length (front ++ drop m list)
  front-room l =
      let w : length (take m list) ≡ m = length-take-le m list f.room in
      omega (arith, l, w, e, length-append front (drop m list))

  pub front-are :
      length front ≡ length (take m list) →
      take k front ≡ take k (sorted le (take m list)) →
      take k (front ++ drop m list) ≡ take most (sorted le (picked p 0 n))
  front-are l h =
      let w : length (take m list) ≡ m = length-take-le m list f.room in
      take-append-le k front (drop m list) (omega (arith, l, w, e))
      ∙ h
      ∙ ap (λ (x : List ℕ). take k (sorted le x)) f.held
      ∙ ap (λ (i : ℕ). take i (sorted le (picked p 0 n))) e
      ∙ take_min most m (sorted le (picked p 0 n))
      (sorted-length le (no_later-linear (key_in prices rows labels cells)) (picked p 0 n) ∙ count)

-- the same number of rows and of classes
pub parts-of-length :
    (n n' k k' : ℕ) (starts children : List ℕ) →
    n ≡ n' →
    k ≡ k' →
    PartsIn n k starts children →
    PartsIn n' k' starts children
parts-of-length n n' k k' starts children e f p =
    subst (λ (m : ℕ). PartsIn m k' starts children) e (subst (λ (m : ℕ). PartsIn n m starts children) f p)
