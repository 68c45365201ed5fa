-- The kept rows are the first n of all usable rows of the class with a cost, sorted. Assumes nothing.
use mathlib.Core.Path.{◌≡◌, refl, ap, sym, subst, ◌∙◌}
use mathlib.Core.Bool.{Bool, true}
use mathlib.Core.List.{List, [], ◌∷◌}
use Prim.{Dec, yes, no}
use Prim.Native.Nat.{ℕ, zero, suc, ◌<◌, ◌≤◌, min}
use native.Mathlib.Decide.{dec_lt}
use native.Mathlib.Omega.{arith}
use lib.ListN.{length, get_or, length-take}
use lib.Seq.{get_or-take}
use Rattle.std.specs.declared.cmp.Ordering.{Ordering}
use Rattle.std.specs.declared.cmp.Ordering.TheVariants.{Less, Equal, Greater}
use Rattle.order.specs.Compare.{then_by, numbers, lists, up_to}
use Rattle.order.proofs.OrderLaws.{numbers_more}
use Rattle.order.specs.Sort.{count, Sorted, none, more, sorted}
use Rattle.order.proofs.Sorting.CountLaws.{count-nil, count_same, count-cases, count-get, place-of-count}
use Rattle.order.proofs.Sorting.SortLaws.{sorted-same, sorted-sorted}
use Rattle.variant_order.specs.Keys.{Key, compare_keys, compare_rows, no_later}
use Rattle.variant_order.proofs.RankLaws.{no_later-linear}
use Rattle.table_rules.specs.Order.{has, Apart, none as none_apart, more as more_apart}
use Rattle.table_rules.proofs.HasLaws.{has-get, has-place, no_both}
use Rattle.table_rules.proofs.PickedLaws.{Passes, picked-finds, picked_apart}
use Rattle.choice_rules.specs.Deriving.{NotIn}
use Rattle.choice_rules.proofs.Demand.OrderLaws.{map-length, map_get, in_order-length}
use Rattle.file_rules.specs.Table.{Table}
use Rattle.table_rules.specs.Rules.Choosing.{Prices}
use Rattle.table_rules.specs.Rules.Prices.{TruePrices}
use Rattle.table_rules.specs.Rules.Rows.{table_rows}
use Rattle.table_rules.specs.Rules.Facts.{Known}
use Rattle.answer_rules.specs.Variants.{file_row, cost_for, is_variant, variant_rows, key_for, kept_rows, rows_for}
use Rattle.variants_root.proofs.kept_rows.SortLaws.{kept-passes}
use Rattle.extract.specs.First.{RowCost, ComesFirst, FirstRows, kept_file_rows, kept_costs}
use Rattle.extract.proofs.VariantFacts.GrownLaws.{row-cost, Found, row-found, row-cost-once}

-- Each number of a sorted list is at most those after it.
pub sorted-get :
    {le : ℕ → ℕ → Bool} {l : List ℕ} →
    Sorted le l →
    (i j : ℕ) →
    i < j →
    j < length l →
    le (get_or l i 0) (get_or l j 0) ≡ true
sorted-get none i j h k = absurd (omega arith)
sorted-get (more low s) i zero h k = absurd (omega arith)
sorted-get (more {l = l} low s) zero (suc j) h k = low (get_or l j 0) (count-get l j (omega arith))
sorted-get (more low s) (suc i) (suc j) h k = sorted-get s i j (omega arith) (omega arith)

-- A number at two places stands there twice, and one of different numbers once.
twice :
    (l : List ℕ) (i j : ℕ) → i < j → j < length l → get_or l i 0 ≡ get_or l j 0 → 2 ≤ count (get_or l j 0) l
twice [] i j h k e = absurd (omega arith)
twice (x ∷ l) i zero h k e = absurd (omega arith)
twice (x ∷ l) zero (suc j) h k e =
    omega (arith, count_same (get_or l j 0) x l e, count-get l j (omega arith))
twice (x ∷ l) (suc i) (suc j) h k e =
    let q : 2 ≤ count (get_or l j 0) l = twice l i j (omega arith) (omega arith) e in
    count-cases (get_or l j 0) x l (λ d c. omega (arith, c)) (λ d c. omega (arith, c))

has-of-count : (z : ℕ) (l : List ℕ) → 0 < count z l → has z l ≡ true
has-of-count z l h =
    let p = place-of-count z l h in
    subst (λ (y : ℕ). has y l ≡ true) p.1.1 (has-get l p.0 p.1.0)

count-of-has : (z : ℕ) (l : List ℕ) → has z l ≡ true → 0 < count z l
count-of-has z l h =
    let p = has-place z l h in
    subst (λ (y : ℕ). 0 < count y l) p.2 (count-get l p.0 p.1)

apart-count : {m : ℕ} {l : List ℕ} → Apart m l → (z : ℕ) → count z l ≤ 1
apart-count none_apart z = omega (arith, count-nil z)
apart-count (more_apart {x = x} {xs = xs} b e r) z =
    count-cases z x xs
    (λ d c. go d c (dec_lt 0 (count z xs)))
    (λ d c. omega (arith, c, apart-count r z))
  where
    go : x ≡ z → count z (x ∷ xs) ≡ suc (count z xs) → Dec (0 < count z xs) → count z (x ∷ xs) ≤ 1
    go d c (yes k) = no_both (has x xs) (subst (λ (y : ℕ). has y xs ≡ true) (sym d) (has-of-count z xs k)) e
    go d c (no k) = omega arith

apart-get : {m : ℕ} (l : List ℕ) → Apart m l → (i j : ℕ) → i < j → j < length l → get_or l i 0 ≡ get_or l j 0 → ⊥
apart-get l a i j h k e = omega (arith, twice l i j h k e, apart-count a (get_or l j 0))

apart-places :
    {m : ℕ} (l : List ℕ) →
    Apart m l →
    (i j : ℕ) →
    i < length l →
    j < length l →
    get_or l i 0 ≡ get_or l j 0 →
    i ≡ j
apart-places l a i j h k e = go (dec_lt i j) (dec_lt j i)
  where
    go : Dec (i < j) → Dec (j < i) → i ≡ j
    go (yes p) q = absurd (apart-get l a i j p k e)
    go (no p) (yes q) = absurd (apart-get l a j i q h (sym e))
    go (no p) (no q) = omega arith

not-in-get : (z : ℕ) (l : List ℕ) → NotIn z l → (j : ℕ) → j < length l → get_or l j 0 ≡ z → ⊥
not-in-get z [] n j h e = omega arith
not-in-get z (x ∷ l) n zero h e = n.0 (sym e)
not-in-get z (x ∷ l) n (suc j) h e = not-in-get z l n.1 j (omega arith) e

-- What comes no later comes first by its key, and costs no more.
first-decides : (o p : Ordering) → up_to (then_by o p) ≡ true → up_to o ≡ true
first-decides Less p e = refl
first-decides Equal p e = refl
first-decides Greater p e = e

by_key : (key : ℕ → Key) (a b : ℕ) → no_later key a b ≡ true → up_to (compare_keys (key a) (key b)) ≡ true
unfolding compare_rows
by_key key a b e = first-decides (compare_keys (key a) (key b)) (numbers a b) e

pub first-cheaper : (a b : Key) → up_to (compare_keys a b) ≡ true → a.cost ≤ b.cost
unfolding compare_keys
first-cheaper a b e = go (dec_lt b.cost a.cost)
  where
    rest : Ordering
    rest = then_by (lists a.name b.name) (lists a.cells b.cells)

    go : Dec (b.cost < a.cost) → a.cost ≤ b.cost
    go (no l) = omega arith
    go (yes l) =
        let n : numbers a.cost b.cost ≡ Greater = numbers_more a.cost b.cost l in
        let o : up_to (numbers a.cost b.cost) ≡ true =
        first-decides (numbers a.cost b.cost) (then_by (lists a.name b.name) (lists a.cells b.cells))
        e in
        no_both (up_to (numbers a.cost b.cost)) o (ap up_to n)

module _ (t : Table) (known : Known t) (In : ℕ → Type 0) (ps : Prices) (tp : TruePrices t In ps) (c : ℕ)
    (r : In c) (n : ℕ) where
  abbrev all : List ℕ
  all = sorted (no_later (key_for t ps)) (variant_rows t ps c)

  all-sorted : Sorted (no_later (key_for t ps)) all
  all-sorted = sorted-sorted (no_later (key_for t ps)) (no_later-linear (key_for t ps)) (variant_rows t ps c)

  all_once : (z : ℕ) → count z all ≤ 1
  unfolding variant_rows
  all_once z =
      let s = sorted-same (no_later (key_for t ps)) (no_later-linear (key_for t ps)) (variant_rows t ps c) z in
      omega (
        arith,
        s,
        apart-count
            (picked_apart (is_variant t ps c) (length (rows_for t ps)) 0 (length (rows_for t ps)) (omega arith)) z,
      )

  kept-long : length (kept_rows t ps c n) ≡ min n (length all)
  unfolding kept_rows
  kept-long = length-take n all

  kept-get : (j : ℕ) → j < length (kept_rows t ps c n) → get_or (kept_rows t ps c n) j 0 ≡ get_or all j 0
  unfolding kept_rows
  kept-get j b = get_or-take n all j 0 (omega (arith, b, kept-long))

  pub kept-few : length (kept_rows t ps c n) ≤ n
  kept-few = omega (arith, kept-long)

  kept-picked :
      (j : ℕ) →
      j < length (kept_rows t ps c n) →
      Passes (is_variant t ps c) (get_or (kept_rows t ps c n) j 0) 0 (length (rows_for t ps))
  unfolding kept_rows variant_rows
  kept-picked j b = kept-passes (key_for t ps) (is_variant t ps c) (length (rows_for t ps)) n j b

  pub kept-place : (j : ℕ) → j < length (kept_rows t ps c n) → get_or (kept_rows t ps c n) j 0 < length (rows_for t ps)
  kept-place j b = omega (arith, (kept-picked j b).high)

  pub kept_variant :
      (j : ℕ) → j < length (kept_rows t ps c n) → is_variant t ps c (get_or (kept_rows t ps c n) j 0) ≡ true
  kept_variant j b = (kept-picked j b).passes

  pub kept-order :
      (i j : ℕ) →
      i < j →
      j < length (kept_rows t ps c n) →
      no_later (key_for t ps) (get_or (kept_rows t ps c n) i 0) (get_or (kept_rows t ps c n) j 0) ≡ true
  kept-order i j b l =
      rw (kept-get i (omega (arith, b, l)), kept-get j l)
      (sorted-get all-sorted i j b (omega (arith, l, kept-long)))

  -- a place of the scan order by its row, and by its key
  row_of : (j : ℕ) → j < length (kept_rows t ps c n)
      → get_or (kept_file_rows t ps c n) j 0 ≡ file_row ps (get_or (kept_rows t ps c n) j 0)
  row_of j b = map_get (file_row ps) (kept_rows t ps c n) j 0 0 b

  cost-of : (j : ℕ) → j < length (kept_rows t ps c n)
      → get_or (kept_costs t ps c n) j 0 ≡ cost_for t ps (get_or (kept_rows t ps c n) j 0)
  cost-of j b = map_get (cost_for t ps) (kept_rows t ps c n) j 0 0 b

  comes-first :
      (a b : ℕ) →
      no_later (key_for t ps) a b ≡ true →
      ComesFirst t (file_row ps a) (cost_for t ps a) (file_row ps b) (cost_for t ps b)
  unfolding key_for
  comes-first a b e = by_key (key_for t ps) a b e

  kept-apart :
      (i j : ℕ) →
      i < j →
      j < length (kept_rows t ps c n) →
      file_row ps (get_or (kept_rows t ps c n) i 0) ≡ file_row ps (get_or (kept_rows t ps c n) j 0) →
      ⊥
  kept-apart i j b l e =
      let long = in_order-length (table_rows t) ps.order in
      let same : get_or all i 0 ≡ get_or all j 0 =
      sym (kept-get i (omega (arith, b, l)))
      ∙ apart-places ps.order tp.apart (get_or (kept_rows t ps c n) i 0) (get_or (kept_rows t ps c n) j 0)
      (omega (arith, long, kept-place i (omega (arith, b, l)))) (omega (arith, long, kept-place j l)) e
      ∙ kept-get j l in
      omega (arith, twice all i j b (omega (arith, l, kept-long)) same, all_once (get_or all j 0))

  -- a row that is left out stands past the first n
  record Past (q w : ℕ) : Type 0 where
    place : ℕ
    later : n ≤ place
    inside : place < length all
    row : file_row ps (get_or all place 0) ≡ q
    cost : cost_for t ps (get_or all place 0) ≡ w

  past : (q w : ℕ) → RowCost t c q w → NotIn q (kept_file_rows t ps c n) → Past q w
  unfolding variant_rows
  past q w rc out =
      let d : Found t known In ps tp c r q = row-found t known In ps tp c r q rc.children rc.is_deriving in
      let p : ℕ = d.place in
      let there : 0 < count p all =
      subst (λ (x : ℕ). 0 < x)
      (sym (sorted-same (no_later (key_for t ps)) (no_later-linear (key_for t ps)) (variant_rows t ps c) p))
      (count-of-has p (variant_rows t ps c)
      (picked-finds (is_variant t ps c) p 0 (length (rows_for t ps)) (omega arith) (omega (arith, d.inside))
      d.is-variant)) in
      let m = place-of-count p all there in
      let row : file_row ps (get_or all m.0 0) ≡ q = ap (file_row ps) m.1.1 ∙ d.row in
      let cost : cost_for t ps (get_or all m.0 0) ≡ w =
      ap (cost_for t ps) m.1.1
      ∙ row-cost-once t c q (cost_for t ps p) w
      (subst (λ (x : ℕ). RowCost t c x (cost_for t ps p)) d.row
      (row-cost t known In ps tp c r p d.inside d.is-variant)) rc in
      record {
        place = m.0;
        later = behind m.0 m.1.0 row (dec_lt m.0 n);
        inside = m.1.0;
        row = row;
        cost = cost;
      }
    where
      behind : (m : ℕ) → m < length all → file_row ps (get_or all m 0) ≡ q → Dec (m < n) → n ≤ m
      behind m b e (no l) = omega arith
      behind m b e (yes l) =
          let k : m < length (kept_rows t ps c n) = omega (arith, kept-long) in
          absurd
          (not-in-get q (kept_file_rows t ps c n) out m
          (omega (arith, map-length (file_row ps) (kept_rows t ps c n)))
          (row_of m k ∙ ap (file_row ps) (kept-get m k) ∙ e))

  pub first_rows : FirstRows t c n (kept_file_rows t ps c n) (kept_costs t ps c n)
  first_rows = record {
    as_many = map-length (cost_for t ps) kept ∙ sym long;
    at_most = omega (arith, kept-few, long);
    each = λ j b.
        let k = in_kept j b in
        rw (row_of j k, cost-of j k)
        (row-cost t known In ps tp c r (get_or (kept_rows t ps c n) j 0) (kept-place j k) (kept_variant j k));
    once = λ i j b l e.
        let k = in_kept j l in
        let g = in_kept i (omega (arith, b, l)) in
        kept-apart i j b k (sym (row_of i g) ∙ e ∙ row_of j k);
    in_order = λ i j b l.
        let k = in_kept j l in
        let g = in_kept i (omega (arith, b, l)) in
        rw (row_of i g, cost-of i g, row_of j k, cost-of j k)
        (comes-first (get_or (kept_rows t ps c n) i 0) (get_or (kept_rows t ps c n) j 0) (kept-order i j b k));
    left_out = λ q w rc out.
        let p = past q w rc out in (
          omega (arith, long, kept-long, p.later, p.inside),
          λ j b.
              let k = in_kept j b in
              let first : ComesFirst t (file_row ps (get_or all j 0)) (cost_for t ps (get_or all j 0)) q w =
              subst
              (λ (x : ℕ). ComesFirst t (file_row ps (get_or all j 0)) (cost_for t ps (get_or all j 0)) x w)
              p.row
              (subst
              (λ (x : ℕ).
              ComesFirst t (file_row ps (get_or all j 0)) (cost_for t ps (get_or all j 0))
              (file_row ps (get_or all p.place 0)) x)
              p.cost
              (comes-first (get_or all j 0) (get_or all p.place 0)
              (sorted-get all-sorted j p.place (omega (arith, k, kept-few, p.later)) p.inside))) in
              rw (row_of j k, cost-of j k, kept-get j k) first,
        );
  }
    where
      kept : List ℕ
      kept = kept_rows t ps c n

      long : length (kept_file_rows t ps c n) ≡ length (kept_rows t ps c n)
      long = map-length (file_row ps) (kept_rows t ps c n)

      in_kept : (j : ℕ) → j < length (kept_file_rows t ps c n) → j < length (kept_rows t ps c n)
      in_kept j b = omega (arith, b, long)
