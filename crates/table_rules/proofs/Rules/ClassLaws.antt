-- A class is never keyed without its sort: flat class numbers tell sorts and values apart. Assumes nothing.
use mathlib.Core.Path.{◌≡◌}
use mathlib.Core.List.{List, [], ◌∷◌}
use Prim.Native.Nat.{ℕ, zero, suc, ◌+◌, ◌<◌, ◌≤◌}
use native.Mathlib.Omega.{arith}
use lib.ListN.{length, get_or, take}
use Rattle.order.proofs.OrderLaws.{numbers-cases}
use Rattle.file_rules.specs.Table.{Sort, Table}
use Rattle.file_rules.specs.Sorts.{classes_of}
use Rattle.table_rules.specs.Rules.Classes.{no_sort, sort_of, class_count, flat_class}

-- the classes of sort s come before those of every later sort
pub classes_of-before :
    (xs : List Sort) (s u : ℕ) →
    s < u →
    s < length xs →
    classes_of (take s xs) + (get_or xs s no_sort).classes ≤ classes_of (take u xs)
unfolding classes_of
classes_of-before [] s u h k = absurd (omega arith)
classes_of-before (x ∷ xs) s zero h k = absurd (omega arith)
classes_of-before (x ∷ xs) zero (suc u) h k = omega arith
classes_of-before (x ∷ xs) (suc s) (suc u) h k = omega (arith, classes_of-before xs s u (omega arith) (omega arith))

pub classes_of-within :
    (xs : List Sort) (s : ℕ) → s < length xs → classes_of (take s xs) + (get_or xs s no_sort).classes ≤ classes_of xs
unfolding classes_of
classes_of-within [] s h = absurd (omega arith)
classes_of-within (x ∷ xs) zero h = omega arith
classes_of-within (x ∷ xs) (suc s) h = omega (arith, classes_of-within xs s (omega arith))

module _ (t : Table) where
  pub flat_class-below :
      (s v : ℕ) → s < length t.sorts → v < (sort_of t s).classes → flat_class t s v < class_count t
  unfolding flat_class
  flat_class-below s v h k = omega (arith, classes_of-within t.sorts s h)

  -- different sorts have different classes
  pub flat_class-sort :
      (s v u w : ℕ) →
      s < length t.sorts →
      v < (sort_of t s).classes →
      u < length t.sorts →
      w < (sort_of t u).classes →
      flat_class t s v ≡ flat_class t u w →
      s ≡ u
  unfolding flat_class
  flat_class-sort s v u w h k l m e =
      numbers-cases s u (λ d. absurd (omega (arith, classes_of-before t.sorts s u d h)))
      (λ d. d) (λ d. absurd (omega (arith, classes_of-before t.sorts u s d l)))

  -- and so have different values of one sort
  pub flat_class-value : (s v w : ℕ) → flat_class t s v ≡ flat_class t s w → v ≡ w
  unfolding flat_class
  flat_class-value s v w e = omega arith
