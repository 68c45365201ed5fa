-- Laws on a plan in packed rows. Assumes nothing.
use Prim.Native.Nat.{ℕ, zero, suc, ◌+◌, ◌*◌, ◌-◌, ◌≤◌, ◌<◌}
use mathlib.Core.Path.{◌≡◌, refl, sym, ap, ◌∙◌}
use mathlib.Core.Bool.{Bool, true, false}
use mathlib.Core.List.{List, [], ◌∷◌, map}
use native.Mathlib.Numerals.{add-one}
use native.Mathlib.Omega.{arith}
use lib.ListN.{length, get_or, drop, length-take, length-map, drop_of_length-le}
use lib.Seq.{drop-cons}
use lib.Dec.{ltb}
use lib.IntN.{ℤ, pos}
use borrow.Author.Tests.{lt-ltb, le-ltb, ltb-true, ltb-false}
use Rattle.table_layout.specs.Rows.{width, count_at, children_at}
use Rattle.build.specs.Plan.{Child, class, value, child_of, plan_of}
use Rattle.build.specs.Ready.{Lower, AllLower, Ranked, ChildBelow, Planned}

module _ (values : List ℤ) (x : ℕ) where
  pub child_of-class : x < 512 → child_of values x ≡ class x
  unfolding child_of
  child_of-class h = rw (lt-ltb x 512 h, child_of)

  pub child_of-value : 512 ≤ x → child_of values x ≡ value (get_or values (x - 512) (pos 0))
  unfolding child_of
  child_of-value h = rw (le-ltb x 512 h, child_of)

pub map-drop : {A B : Type 0} (f : A → B) (j : ℕ) (l : List A) → drop j (map f l) ≡ map f (drop j l)
map-drop f zero l = refl
map-drop f (suc j) [] = refl
map-drop f (suc j) (a ∷ l) = map-drop f j l

-- the children of a list of child numbers, one at a time
module _ (values : List ℤ) (kids : List ℕ) where
  pub children-next :
      (j : ℕ) →
      j < length kids →
      drop j (map (child_of values) kids) ≡ child_of values (get_or kids j 0) ∷ drop (j + 1) (map (child_of values) kids)
  children-next j h =
      map-drop (child_of values) j kids
      ∙ ap (map (child_of values)) (drop-cons kids j 0 h)
      ∙ ap (λ (xs : List Child). child_of values (get_or kids j 0) ∷ xs) (sym (map-drop (child_of values) (suc j) kids))
      ∙ ap (λ (i : ℕ). child_of values (get_or kids j 0) ∷ drop i (map (child_of values) kids)) (sym (add-one j))

  pub children-end : (j : ℕ) → length kids ≤ j → drop j (map (child_of values) kids) ≡ []
  children-end j h =
      drop_of_length-le (map (child_of values) kids) {i = j} (omega (arith, length-map kids (child_of values)))

-- what holds of each child number holds of each child
all_lower-of :
    (rank : ℕ → ℕ) (r : ℕ) (values : List ℤ) (xs : List ℕ) →
    ((j : ℕ) → j < length xs → Lower rank r (child_of values (get_or xs j 0))) →
    AllLower rank r (map (child_of values) xs)
all_lower-of rank r values [] f = tt
all_lower-of rank r values (x ∷ xs) f =
    (f 0 (omega arith), all_lower-of rank r values xs (λ j h. f (suc j) (omega arith)))

pub lower-of-below :
    (rank : ℕ → ℕ) (r : ℕ) (values : List ℤ) (x : ℕ) → ChildBelow rank r values x → Lower rank r (child_of values x)
lower-of-below rank r values x v = go (ltb x 512) refl
  where
    go : (b : Bool) → ltb x 512 ≡ b → Lower rank r (child_of values x)
    go true b =
        let l : x < 512 = ltb-true x 512 b in
        rw (child_of-class values x l) (v.ranked l, v.falls l)
    go false b = rw (child_of-value values x (ltb-false x 512 b)) tt

-- the children of a row are at most as many as it counts
pub children-few : (rows : List ℕ) (i : ℕ) → length (children_at rows i) ≤ count_at rows i
children-few rows i = omega (arith, length-take (count_at rows i) (drop (i * width + 4) rows))

module _ (rank : ℕ → ℕ) (rows edges labels : List ℕ) (values : List ℤ) where
  pub ranked-of-planned :
      ((k : ℕ) → 0 < rank k → Planned rank rows edges labels values k) → Ranked (plan_of rows edges labels values) rank
  ranked-of-planned p = record {
    named = λ c l. (p c l).label.named;
    few = λ c l.
        omega (
          arith,
          length-map (children_at rows (get_or edges c 0)) (child_of values),
          children-few rows (get_or edges c 0),
          (p c l).few,
        );
    lower = λ c l.
        all_lower-of rank (rank c) values (children_at rows (get_or edges c 0))
        (λ j h. lower-of-below rank (rank c) values (get_or (children_at rows (get_or edges c 0)) j 0) ((p c l).child j h));
  }
