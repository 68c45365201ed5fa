-- The scan order has every usable row that can take part in a term of a root's sort. Assumes nothing.
use mathlib.Core.Path.{◌≡◌, refl, ap, sym, ◌∙◌, subst}
use mathlib.Core.Bool.{true, false}
use mathlib.Core.List.{List, [], ◌∷◌}
use Prim.Native.Nat.{ℕ, zero, suc, ◌<◌, ◌≤◌}
use native.Mathlib.Omega.{arith}
use borrow.Author.Tests.{ne_eqb, eqb-false}
use lib.Dec.{eqb}
use lib.ListN.{length, get_or}
use Rattle.order.proofs.OrderLaws.{cases}
use Rattle.choice_rules.specs.Rows.{Child, literal, class, Row, no_row, row_at, child_at, Within}
use Rattle.choice_rules.specs.Demand.Orders.{in_order, Covers}
use Rattle.choice_rules.proofs.Demand.OrderLaws.{map-length, map_get, in_order-length, in_order-get}
use Rattle.file_rules.specs.Table.{Table, Row as TableRow}
use Rattle.table_rules.specs.Order.{has, Within as SortsWithin, sorts_reached, Sound}
use Rattle.table_rules.proofs.HasLaws.{and-true, has_first, has-cons, has-nil, has-get, has-place}
use Rattle.table_rules.proofs.OrderLaws.{root-reached, arguments-reached, Scanned, rows_in_order-get, rows_in_order-finds}
use Rattle.table_rules.specs.Rules.Classes.{sort_of, class_count, flat_class, child_of, range_of}
use Rattle.table_rules.specs.Rules.Rows.{
  no_table_row,
  function_of,
  table_row_of,
  usable_function,
  usable,
  children_of,
  row_by,
  table_rows,
}
use Rattle.table_rules.specs.Rules.Order.{view_of, scan_order, scanned}
use Rattle.table_rules.specs.Rules.Facts.{arity_of, Known}
use Rattle.table_rules.proofs.Rules.ClassLaws.{flat_class-below, flat_class-sort}

pub children_of-length : (t : Table) (ss vs : List ℕ) → length ss ≤ length vs → length (children_of t ss vs) ≡ length ss
unfolding children_of
children_of-length t [] vs h = refl
children_of-length t (s ∷ ss) [] h = absurd (omega arith)
children_of-length t (s ∷ ss) (v ∷ vs) h = ap suc (children_of-length t ss vs (omega arith))

pub children_of-get :
    (t : Table) (ss vs : List ℕ) (j : ℕ) →
    length ss ≤ length vs →
    j < length ss →
    get_or (children_of t ss vs) j (literal 0) ≡ child_of t (get_or ss j 0) (get_or vs j 0)
unfolding children_of
children_of-get t [] vs j h k = absurd (omega arith)
children_of-get t (s ∷ ss) [] j h k = absurd (omega arith)
children_of-get t (s ∷ ss) (v ∷ vs) zero h k = refl
children_of-get t (s ∷ ss) (v ∷ vs) (suc j) h k = children_of-get t ss vs j (omega arith) (omega arith)

pub table_rows-length : (t : Table) → length (table_rows t) ≡ length t.rows
unfolding table_rows
table_rows-length t = map-length (λ (r : TableRow). row_by t (function_of t r.function) r) t.rows

pub table_rows-get :
    (t : Table) (r : ℕ) →
    r < length t.rows →
    row_at (table_rows t) r ≡ row_by t (function_of t (table_row_of t r).function) (table_row_of t r)
unfolding table_rows
table_rows-get t r h =
    map_get (λ (x : TableRow). row_by t (function_of t x.function) x) t.rows r no_table_row no_row h

-- a child that is a class: its sort is an eq sort, and it is the flat class of the cell
pub record ClassChild (t : Table) (s v d : ℕ) : Type 0 where
  pub eq : (sort_of t s).kind ≡ 0 → ⊥
  pub flat : flat_class t s v ≡ d

pub child_of-class : (t : Table) (s v d : ℕ) → child_of t s v ≡ class d → ClassChild t s v d
unfolding child_of
child_of-class t s v d e =
    cases (eqb (sort_of t s).kind 0) (λ q. absurd (not-class (rw (q, child_of) at e)))
    (λ q. flat-class q (rw (q, child_of) at e))
  where
    not-class : literal v ≡ class d → ⊥
    not-class h = let z : ◌≡◌ {A = ℕ} 0 1 = cc in omega arith

    flat-class : eqb (sort_of t s).kind 0 ≡ false → class (flat_class t s v) ≡ class d → ClassChild t s v d
    flat-class q h = record { eq = eqb-false (sort_of t s).kind 0 q; flat = cc }

pub range_of-eq : (t : Table) (s : ℕ) → ((sort_of t s).kind ≡ 0 → ⊥) → range_of t s ≡ (sort_of t s).classes
unfolding range_of
range_of-eq t s n = rw (ne_eqb (sort_of t s).kind 0 n, range_of)

-- a class of a sort that the root sorts reach
pub record Reached (t : Table) (roots : List ℕ) (c : ℕ) : Type 0 where
  pub sort : ℕ
  pub value : ℕ
  pub reached : has sort (sorts_reached (view_of t) roots) ≡ true
  pub known : sort < length t.sorts
  pub inside : value < (sort_of t sort).classes
  pub flat : flat_class t sort value ≡ c

-- the same of one root sort
abbrev pub ReachedClass : Table → ℕ → ℕ → Type 0
ReachedClass t root c = Reached t (root ∷ []) c

pub one_below : (n root : ℕ) → root < n → SortsWithin n (root ∷ [])
one_below n root h a q = has-cons a root [] q (λ e. subst (λ (x : ℕ). x < n) e h) (λ z. has-nil a z)

module _ (t : Table) (k : Known t) where
  -- the output class of a row
  pub output_class :
      (r : ℕ) →
      r < length t.rows →
      (row_at (table_rows t) r).output
      ≡ flat_class t (function_of t (table_row_of t r).function).output (get_or (table_row_of t r).cells (arity_of t r) 0)
  unfolding row_by
  output_class r l = ap (λ (x : Row). x.output) (table_rows-get t r l)

  row-children :
      (r : ℕ) →
      r < length t.rows →
      (row_at (table_rows t) r).children
      ≡ children_of t (function_of t (table_row_of t r).function).arguments (table_row_of t r).cells
  unfolding row_by
  row-children r l = ap (λ (x : Row). x.children) (table_rows-get t r l)

  pub children-length : (r : ℕ) → r < length t.rows → length (row_at (table_rows t) r).children ≡ arity_of t r
  children-length r l =
      ap (λ (x : List Child). length x) (row-children r l)
      ∙ children_of-length t (function_of t (table_row_of t r).function).arguments (table_row_of t r).cells
      (omega (arith, k.cells r l))

  pub child-get :
      (r : ℕ) →
      r < length t.rows →
      (j : ℕ) →
      j < arity_of t r →
      child_at (row_at (table_rows t) r) j
      ≡ child_of t (get_or (function_of t (table_row_of t r).function).arguments j 0) (get_or (table_row_of t r).cells j 0)
  child-get r l j m =
      ap (λ (x : List Child). get_or x j (literal 0)) (row-children r l)
      ∙ children_of-get t (function_of t (table_row_of t r).function).arguments (table_row_of t r).cells j
      (omega (arith, k.cells r l)) m

module _ (t : Table) (k : Known t) (roots : List ℕ) (h : SortsWithin (length t.sorts) roots) where
  pub view-sound : Sound (view_of t) roots
  unfolding view_of
  view-sound = record {
    roots_below = h;
    arguments_below = λ f l a q.
        let p = has-place a (function_of t f).arguments q in
        subst (λ (x : ℕ). x < length t.sorts) p.2 (k.argument f p.0 l p.1);
  }

  -- a row of a reached class has a reached output sort
  output-reached :
      (r : ℕ) →
      r < length t.rows →
      Reached t roots (row_at (table_rows t) r).output →
      has (function_of t (table_row_of t r).function).output (sorts_reached (view_of t) roots) ≡ true
  output-reached r l c =
      let f = (table_row_of t r).function in
      let e : c.sort ≡ (function_of t f).output =
      flat_class-sort t c.sort c.value (function_of t f).output (get_or (table_row_of t r).cells (arity_of t r) 0)
      c.known c.inside (k.output f (k.function r l)) (k.output_cell r l) (c.flat ∙ output_class t k r l) in
      subst (λ (s : ℕ). has s (sorts_reached (view_of t) roots) ≡ true) e c.reached

  usable-parts :
      (r : ℕ) →
      usable t r ≡ true →
      (usable_function (function_of t (table_row_of t r).function) ≡ true) × (eqb (table_row_of t r).subsumed 0 ≡ true)
  unfolding usable
  usable-parts r u =
      and-true (usable_function (function_of t (table_row_of t r).function)) (eqb (table_row_of t r).subsumed 0) u

  scanned-row : (i : ℕ) → i < length (scan_order t roots)
      → Scanned (view_of t) roots view-sound (get_or (scan_order t roots) i 0)
  unfolding scan_order
  scanned-row i l = rows_in_order-get (view_of t) roots view-sound i l

  pub scanned-below : (i : ℕ) → i < length (scan_order t roots) → get_or (scan_order t roots) i 0 < length t.rows
  unfolding view_of
  scanned-below i l = (scanned-row i l).below

  scanned-usable : (i : ℕ) → i < length (scan_order t roots) → usable t (get_or (scan_order t roots) i 0) ≡ true
  unfolding view_of usable
  scanned-usable i l = let w = scanned-row i l in rw (w.usable, w.unsubsumed)

  finds :
      (r : ℕ) →
      r < length t.rows →
      usable t r ≡ true →
      Reached t roots (row_at (table_rows t) r).output →
      has r (scan_order t roots) ≡ true
  unfolding view_of scan_order
  finds r l u c =
      let p = usable-parts r u in
      rows_in_order-finds (view_of t) roots view-sound r l p.1 (k.function r l) p.0 (output-reached r l c)

  -- the argument sorts of a usable row of a reached class are reached
  argument-reached :
      (r : ℕ) →
      r < length t.rows →
      usable t r ≡ true →
      Reached t roots (row_at (table_rows t) r).output →
      (j : ℕ) →
      j < arity_of t r →
      has (get_or (function_of t (table_row_of t r).function).arguments j 0) (sorts_reached (view_of t) roots) ≡ true
  unfolding view_of
  argument-reached r l u c j m =
      let f = (table_row_of t r).function in
      arguments-reached (view_of t) roots view-sound f (get_or (function_of t f).arguments j 0) (k.function r l)
      (usable-parts r u).0 (output-reached r l c) (has-get (function_of t f).arguments j m)

  closed :
      (r : ℕ) →
      r < length t.rows →
      usable t r ≡ true →
      Reached t roots (row_at (table_rows t) r).output →
      (j : ℕ) →
      j < length (row_at (table_rows t) r).children →
      (d : ℕ) →
      child_at (row_at (table_rows t) r) j ≡ class d →
      Reached t roots d
  closed r l u c j m d e =
      let f = (table_row_of t r).function in
      let a : j < arity_of t r = omega (arith, children-length t k r l) in
      let s : ℕ = get_or (function_of t f).arguments j 0 in
      let v : ℕ = get_or (table_row_of t r).cells j 0 in
      let w = child_of-class t s v d (sym (child-get t k r l j a) ∙ e) in
      record {
        sort = s;
        value = v;
        reached = argument-reached r l u c j a;
        known = k.argument f j (k.function r l) a;
        inside = subst (λ (n : ℕ). v < n) (range_of-eq t s w.eq) (k.argument_cell r j l a);
        flat = w.flat;
      }

  -- the scan order covers the classes of reached sorts
  pub scan_order-covers : Covers (table_rows t) (usable t) (scan_order t roots) (Reached t roots)
  scan_order-covers = record {
    known = λ i l. omega (arith, scanned-below i l, table_rows-length t);
    usable_ones = scanned-usable;
    found = λ r l u c.
        let p = has-place r (scan_order t roots) (finds r (omega (arith, l, table_rows-length t)) u c) in
        (p.0, (p.1, p.2));
    closed = λ r l. closed r (omega (arith, l, table_rows-length t));
  }

  -- the scanned rows' outputs are classes of the table
  pub scanned-within : Within (class_count t) (scanned t roots)
  unfolding scanned
  scanned-within i l =
      let m : i < length (scan_order t roots) =
      subst (λ (n : ℕ). i < n) (in_order-length (table_rows t) (scan_order t roots)) l in
      let r : ℕ = get_or (scan_order t roots) i 0 in
      let b : r < length t.rows = scanned-below i m in
      let f = (table_row_of t r).function in
      let e : (row_at (in_order (table_rows t) (scan_order t roots)) i).output
      ≡ flat_class t (function_of t f).output (get_or (table_row_of t r).cells (arity_of t r) 0) =
      ap (λ (x : Row). x.output) (in_order-get (table_rows t) (scan_order t roots) i m) ∙ output_class t k r b in
      rw e
      (flat_class-below t (function_of t f).output (get_or (table_row_of t r).cells (arity_of t r) 0)
      (k.output f (k.function r b)) (k.output_cell r b))

  -- every class of a root's sort is among them
  pub class-of-root :
      (root v : ℕ) → has root roots ≡ true → v < (sort_of t root).classes → Reached t roots (flat_class t root v)
  class-of-root root v r l = record {
    sort = root;
    value = v;
    reached = root-reached (view_of t) roots view-sound root r;
    known = h root r;
    inside = l;
    flat = refl;
  }

pub root-class :
    (t : Table) (k : Known t) (root : ℕ) →
    root < length t.sorts →
    (v : ℕ) →
    v < (sort_of t root).classes →
    ReachedClass t root (flat_class t root v)
root-class t k root h v l =
    class-of-root t k (root ∷ []) (one_below (length t.sorts) root h) root v (has_first root root [] refl) l
