-- The flat rows that are laid from the arrays of a table are its usable rows in scan order. Assumes nothing.
use Prim.Native.Nat.{ℕ, ◌+◌, ◌-◌, ◌*◌, ◌≤◌, ◌<◌}
use mathlib.Core.Path.{◌≡◌, ap, sym, ◌∙◌, subst}
use mathlib.Core.List.{List, map}
use native.Mathlib.Omega.{arith}
use native.Mathlib.Decide.{ℕ_discrete}
use borrow.Author.Tests.{eq-eqb, ne_eqb, lt-ltb, le-ltb}
use lib.ListN.{length, get_or, take, length-map}
use lib.Seq.{ext_get_or}
use Rattle.choice_rules.specs.Rows.{literal, class, row_at}
use Rattle.price_passes.specs.Flat.{rows_of, FlatOk, child_of as flat_child}
use Rattle.choice_rules.specs.Demand.Orders.{in_order}
use Rattle.file_rules.specs.Table.{Table}
use Rattle.file_rules.specs.Sorts.{classes_of}
use Rattle.table_rules.specs.Order.{Within}
use Rattle.table_rules.specs.Arrays.{arguments_in}
use Rattle.table_rules.proofs.OrderLaws.{rows_in_order-length, rows_in_order-get}
use Rattle.table_flat.specs.Classes.{Bases}
use Rattle.table_flat.specs.Rows.{
  output_number,
  head_cost,
  child_number,
  child_numbers,
  cells_in,
  output_in,
  head_in,
  children_in,
  row_in,
}
use Rattle.table_flat.specs.Arrays.{RowArrays, Listed, RowsFit, Laid}
use Rattle.table_flat.proofs.FillLaws.{map_get}
use Rattle.table_flat.proofs.ChildLaws.{child_numbers-length, child_numbers-get, arguments-get, cells-length, cells-get}
use Rattle.table_flat.proofs.FitLaws.{rows_fit, laid-is-flat}
use Rattle.table_rules.specs.Rules.Classes.{sort_of, class_count, flat_class, child_of, range_of}
use Rattle.table_rules.specs.Rules.Rows.{function_of, table_row_of, children_of, row_by, table_rows, head_cost as head_of}
use Rattle.table_rules.specs.Rules.Order.{view_of, scan_order, scanned}
use Rattle.table_rules.specs.Rules.Facts.{arity_of, Known}
use Rattle.table_rules.proofs.Rules.ClassLaws.{classes_of-within, flat_class-below}
use Rattle.table_rules.proofs.Rules.CoverLaws.{children_of-length, children_of-get, table_rows-get, range_of-eq, view-sound}
use Rattle.table_rows.specs.Held.{Holds}
use Rattle.table_rows.proofs.Held.KnownLaws.{one-when-not-zero}
use Rattle.table_rows.proofs.Held.HeldLaws.{
  kind-held,
  declared-held,
  cost-held,
  output-held,
  arity-held,
  function-held,
  arguments-held,
  cell-held,
  base-held,
  class-held,
}
use Rattle.table_rows.proofs.Held.ArrayLaws.{padded-long, map_same, range-most, columns-held}

head_of-same : (f : ℕ) (t : Table) → head_cost (function_of t f).has_cost (function_of t f).cost ≡ head_of
    (function_of t f)
unfolding head_cost head_of
head_of-same f t = go (ℕ_discrete (function_of t f).has_cost 0)
  where
    go : Dec ((function_of t f).has_cost ≡ 0) →
        head_cost (function_of t f).has_cost (function_of t f).cost ≡ head_of (function_of t f)
    go (yes e) =
        let z = eq-eqb (function_of t f).has_cost 0 e in
        let a : head_cost (function_of t f).has_cost (function_of t f).cost ≡ 1 = rw z in
        let b : head_of (function_of t f) ≡ 1 = rw (z, head_of) in
        a ∙ sym b
    go (no e) =
        let z = ne_eqb (function_of t f).has_cost 0 e in
        let a : head_cost (function_of t f).has_cost (function_of t f).cost ≡ (function_of t f).cost = rw z in
        let b : head_of (function_of t f) ≡ (function_of t f).cost = rw (z, head_of) in
        a ∙ sym b

module _ (t : Table) (known : Known t)
    (kinds classes names declared costs unextractable hidden outputs arities arguments row_functions
    subsumed cells : List ℕ)
    (h : Holds t kinds classes names declared costs unextractable hidden outputs arities arguments
    row_functions subsumed cells)
    (bases : List ℕ) (numbered : Bases (length t.sorts) classes bases) where
  -- The laws of what stands in the arrays, at these arrays.
  kind_at : (s : ℕ) → get_or kinds s 0 ≡ (sort_of t s).kind
  kind_at =
      kind-held t known kinds classes names declared costs unextractable hidden outputs arities arguments row_functions
      subsumed cells h

  declared-at : (f : ℕ) → get_or declared f 0 ≡ (function_of t f).has_cost
  declared-at =
      declared-held t known kinds classes names declared costs unextractable hidden outputs arities
      arguments row_functions
      subsumed cells h

  cost-at : (f : ℕ) → get_or costs f 0 ≡ (function_of t f).cost
  cost-at =
      cost-held t known kinds classes names declared costs unextractable hidden outputs arities arguments row_functions
      subsumed cells h

  output-at : (f : ℕ) → get_or outputs f 0 ≡ (function_of t f).output
  output-at =
      output-held t known kinds classes names declared costs unextractable hidden outputs arities
      arguments row_functions
      subsumed cells h

  arity-at : (f : ℕ) → get_or arities f 0 ≡ length (function_of t f).arguments
  arity-at =
      arity-held t known kinds classes names declared costs unextractable hidden outputs arities arguments row_functions
      subsumed cells h

  function-at : (r : ℕ) → get_or row_functions r 0 ≡ (table_row_of t r).function
  function-at =
      function-held t known kinds classes names declared costs unextractable hidden outputs arities
      arguments row_functions
      subsumed cells h

  arguments-at : (f : ℕ) → arguments_in arities arguments f ≡ (function_of t f).arguments
  arguments-at =
      arguments-held t known kinds classes names declared costs unextractable hidden outputs arities
      arguments row_functions
      subsumed cells h

  cell_at :
      (r j : ℕ) → r < length t.rows → j ≤ arity_of t r →
      get_or cells (r * 9 + j) 0 ≡ get_or (table_row_of t r).cells j 0
  cell_at =
      cell-held t known kinds classes names declared costs unextractable hidden outputs arities arguments row_functions
      subsumed cells h

  base-at : (s : ℕ) → s < length t.sorts → get_or bases s 0 ≡ classes_of (take s t.sorts)
  base-at =
      base-held t known kinds classes names declared costs unextractable hidden outputs arities arguments row_functions
      subsumed cells h bases numbered

  class-at : (s v : ℕ) → s < length t.sorts → get_or bases s 0 + v ≡ flat_class t s v
  class-at =
      class-held t known kinds classes names declared costs unextractable hidden outputs arities arguments row_functions
      subsumed cells h bases numbered

  -- A cell's child number means the table's child.
  module _ (s v : ℕ) (l : s < length t.sorts) (k : v < range_of t s) where
    child-base : (sort_of t s).kind ≡ 0 → flat_child (child_number kinds bases s v) ≡ child_of t s v
    unfolding child_number flat_child child_of
    child-base e =
        let a : child_number kinds bases s v ≡ 512 + v =
        rw (ne_eqb (get_or kinds s 0) 1 (λ o. omega (arith, kind_at s))) in
        let m : 512 + v - 512 ≡ v = omega arith in
        let b : flat_child (512 + v) ≡ literal v = rw (le-ltb (512 + v) 512 (omega arith), m) in
        let c : child_of t s v ≡ literal v = rw (eq-eqb (sort_of t s).kind 0 e, child_of) in
        ap flat_child a ∙ b ∙ sym c

    child-eq : ((sort_of t s).kind ≡ 0 → ⊥) → flat_child (child_number kinds bases s v) ≡ child_of t s v
    unfolding child_number flat_child child_of
    child-eq e =
        let one = one-when-not-zero (sort_of t s).kind (known.kind s l) e in
        let d : flat_class t s v < 512 =
        omega (arith, flat_class-below t s v l (rw (range_of-eq t s e) at k), known.few_classes) in
        let a : child_number kinds bases s v ≡ flat_class t s v =
        rw (eq-eqb (get_or kinds s 0) 1 (kind_at s ∙ one)) (class-at s v l) in
        let b : flat_child (flat_class t s v) ≡ class (flat_class t s v) = rw (lt-ltb (flat_class t s v) 512 d) in
        let c : child_of t s v ≡ class (flat_class t s v) = rw (ne_eqb (sort_of t s).kind 0 e, child_of) in
        ap flat_child a ∙ b ∙ sym c

    child-is : flat_child (child_number kinds bases s v) ≡ child_of t s v
    child-is = go (ℕ_discrete (sort_of t s).kind 0)
      where
        go : Dec ((sort_of t s).kind ≡ 0) → flat_child (child_number kinds bases s v) ≡ child_of t s v
        go (yes e) = child-base e
        go (no e) = child-eq e

  module _ (r : ℕ) (l : r < length t.rows) where
    abbrev fn : ℕ
    fn = (table_row_of t r).function

    abbrev sorts : List ℕ
    sorts = (function_of t fn).arguments

    fn-below : fn < length t.functions
    fn-below = known.function r l

    output-is :
        output_in bases arities outputs row_functions cells r
        ≡ flat_class t (function_of t fn).output (get_or (table_row_of t r).cells (arity_of t r) 0)
    unfolding output_in output_number
    output-is =
        rw (function-at r, output-at fn, arity-at fn, cell_at r (arity_of t r) l (omega arith))
        (class-at (function_of t fn).output (get_or (table_row_of t r).cells (arity_of t r) 0)
        (known.output fn fn-below))

    head-is : head_in declared costs row_functions r ≡ head_of (function_of t fn)
    unfolding head_in
    head-is = rw (function-at r, declared-at fn, cost-at fn) (head_of-same fn t)

    cells-are-long : r * 9 + get_or arities fn 0 ≤ length cells
    cells-are-long =
        omega (
          arith,
          arity-at fn,
          known.arity fn fn-below,
          subst (λ (x : List ℕ). length t.rows * 9 ≤ length x) (sym h.rows_held.cells_are)
              (padded-long 9216 (length t.rows * 9) _ (omega (arith, known.few_rows))),
        )

    children-length : length (cells_in arities cells fn r) ≡ length sorts
    children-length = cells-length arities arguments cells fn r cells-are-long ∙ arity-at fn

    argument_cell : (j : ℕ) → j < length sorts → get_or (cells_in arities cells fn r) j 0 ≡ get_or
        (table_row_of t r).cells j 0
    argument_cell j k =
        let d : j < get_or arities fn 0 = omega (arith, arity-at fn) in
        cells-get arities arguments cells fn r j d ∙ cell_at r j l (omega arith)

    children-is :
        map flat_child (children_in kinds bases arities arguments row_functions cells r)
        ≡ children_of t sorts (table_row_of t r).cells
    unfolding children_in
    children-is =
        rw (function-at r, arguments-at fn)
        (let n : length sorts ≤ length (table_row_of t r).cells = omega (arith, known.cells r l) in
        let a = child_numbers-length kinds bases sorts (cells_in arities cells fn r) children-length in
        let b = children_of-length t sorts (table_row_of t r).cells n in
        let c = length-map (child_numbers kinds bases sorts (cells_in arities cells fn r)) flat_child in
        ext_get_or (literal 0) (map flat_child (child_numbers kinds bases sorts (cells_in arities cells fn r)))
        (children_of t sorts (table_row_of t r).cells) (c ∙ a ∙ sym b)
        (λ j k.
        let d : j < length sorts = omega arith in
        map_get flat_child (child_numbers kinds bases sorts (cells_in arities cells fn r)) j (literal 0) (omega arith)
        ∙ ap flat_child (child_numbers-get kinds bases sorts (cells_in arities cells fn r) j children-length d)
        ∙ ap (λ (v : ℕ). flat_child (child_number kinds bases (get_or sorts j 0) v)) (argument_cell j d)
        ∙ child-is (get_or sorts j 0) (get_or (table_row_of t r).cells j 0) (known.argument fn j fn-below d)
        (known.argument_cell r j l d)
        ∙ sym (children_of-get t sorts (table_row_of t r).cells j n d)))

    -- A row of the arrays is the table's.
    pub row-held :
        row_in kinds bases declared costs outputs arities arguments row_functions cells r ≡ row_at (table_rows t) r
    unfolding row_in row_by
    row-held = rw (output-is, head-is, children-is) (sym (table_rows-get t r l))

  sort-small : (s : ℕ) → s < length t.sorts → classes_of (take s t.sorts) ≤ 512
  sort-small s l = omega (arith, classes_of-within t.sorts s l, known.few_classes)

  child-of-class :
      (r j : ℕ) → r < length t.rows → j < get_or arities (get_or row_functions r 0) 0 →
      get_or kinds (get_or arguments (get_or row_functions r 0 * 8 + j) 0) 0 ≡ 1 →
      get_or bases (get_or arguments (get_or row_functions r 0 * 8 + j) 0) 0 + get_or cells (r * 9 + j) 0 < class_count t
  child-of-class r j l k =
      rw (function-at r) (λ one.
      let f = (table_row_of t r).function in
      let b = known.function r l in
      let d : j < get_or arities f 0 = subst (λ (x : ℕ). j < get_or arities x 0) (function-at r) k in
      let i : j < length (function_of t f).arguments = omega (arith, arity-at f) in
      let e : get_or arguments (f * 8 + j) 0 ≡ get_or (function_of t f).arguments j 0 =
      sym (arguments-get arities arguments cells f r j d)
      ∙ ap (λ (x : List ℕ). get_or x j 0) (arguments-at f) in
      let s = get_or (function_of t f).arguments j 0 in
      let m : s < length t.sorts = known.argument f j b i in
      let o : (sort_of t s).kind ≡ 1 = sym (kind_at s) ∙ ap (λ (x : ℕ). get_or kinds x 0) (sym e) ∙ one in
      let w = rw (range_of-eq t s (λ z. omega arith)) at (known.argument_cell r j l i) in
      rw (e, cell_at r j l (omega arith), class-at s (get_or (table_row_of t r).cells j 0) m)
      (flat_class-below t s (get_or (table_row_of t r).cells j 0) m w))

  -- The arrays are as the flat rows ask, over the table's classes.
  pub row-arrays-held :
      length t.sorts ≤ length bases →
      RowArrays (length t.sorts) (length t.functions) (length t.rows) (class_count t)
      kinds bases declared costs outputs arities arguments row_functions cells
  row-arrays-held long = record {
    few_classes = known.few_classes;
    kinds_long = rw h.sorts_held.kinds_are (padded-long 32 (length t.sorts) _ (omega
        (arith, known.few_sorts)));
    bases_long = long;
    declared_long = rw h.functions_held.declared_are
        (padded-long 128 (length t.functions) _ (omega (arith, known.few_functions)));
    costs_long = rw h.functions_held.costs_are
        (padded-long 128 (length t.functions) _ (omega (arith, known.few_functions)));
    outputs_long = rw h.functions_held.outputs_are
        (padded-long 128 (length t.functions) _ (omega (arith, known.few_functions)));
    columns = columns-held t known kinds classes names declared costs unextractable hidden outputs arities arguments
        row_functions subsumed cells h;
    row_functions_long = rw h.rows_held.functions_are
        (padded-long 1024 (length t.rows) _ (omega (arith, known.few_rows)));
    cells_long = rw h.rows_held.cells_are
        (padded-long 9216 (length t.rows * 9) _ (omega (arith, known.few_rows)));
    output_below = λ f l. rw (output-at f) (known.output f l);
    function_below = λ r l. rw (function-at r) (known.function r l);
    base_small = λ s l. rw (base-at s l) (sort-small s l);
    cell_small = λ r j l k.
        let f = (table_row_of t r).function in
        let d : j < get_or arities f 0 = subst (λ (x : ℕ). j < get_or arities x 0) (function-at r) k in
        let i : j < arity_of t r = omega (arith, arity-at f) in
        let s = get_or (function_of t f).arguments j 0 in
        rw (cell_at r j l (omega arith))
        (omega (
          arith,
          known.argument_cell r j l i,
          range-most t known s (known.argument f j
              (known.function r l) i),
        ));
    output_class = λ r l.
        let f = (table_row_of t r).function in
        rw (output-is r l)
        (flat_class-below t (function_of t f).output (get_or (table_row_of t r).cells (arity_of t r) 0)
        (known.output f (known.function r l)) (known.output_cell r l));
    child_class = child-of-class;
  }

  -- The scan order lists rows of the table, at most 1,024.
  module _ (roots : List ℕ) (small : Within (length t.sorts) roots) where
    pub order-listed : Listed (length t.rows) (scan_order t roots)
    unfolding scan_order view_of
    order-listed = record {
      few = omega (arith, rows_in_order-length (view_of t) roots (view-sound t known roots small), known.few_rows);
      below = λ i l. (rows_in_order-get (view_of t) roots (view-sound t known roots small) i l).below;
    }

    -- The rows of the scan order can be laid.
    pub rows-fit-scanned :
        (order : List ℕ) →
        order ≡ scan_order t roots →
        length t.sorts ≤ length bases →
        RowsFit kinds bases declared costs outputs arities arguments row_functions cells order
    rows-fit-scanned order e long =
        rows_fit (length t.sorts) (length t.functions) (length t.rows) (class_count t)
        kinds bases declared costs outputs arities arguments row_functions cells (row-arrays-held long) order
        (subst (λ (x : List ℕ). Listed (length t.rows) x) (sym e) order-listed)

    -- What is laid in scan order is the rows that the rules speak of, over the table's classes.
    pub laid-scanned :
        (order : List ℕ) (m : ℕ) (flat heads starts children : List ℕ) →
        order ≡ scan_order t roots →
        Laid kinds bases declared costs outputs arities arguments row_functions cells order m flat
        heads starts children →
        rows_of (take (length order) flat) (take (length order) heads) (take (length order + 1) starts)
        (take m children)
        ≡ scanned t roots
    unfolding scanned in_order
    laid-scanned order m flat heads starts children e v =
        v.rows
        ∙ ap (map (row_in kinds bases declared costs outputs arities arguments row_functions cells)) e
        ∙ map_same (row_in kinds bases declared costs outputs arities arguments row_functions cells)
        (row_at (table_rows t)) (scan_order t roots)
        (λ k l. row-held (get_or (scan_order t roots) k 0) (order-listed.below k l))

    pub laid-flat-scanned :
        (order : List ℕ) (m : ℕ) (flat heads starts children : List ℕ) →
        order ≡ scan_order t roots →
        length t.sorts ≤ length bases →
        Laid kinds bases declared costs outputs arities arguments row_functions cells order m flat
        heads starts children →
        FlatOk (class_count t)
        (take (length order) flat) (take (length order) heads) (take (length order + 1) starts) (take m children)
    laid-flat-scanned order m flat heads starts children e long v =
        laid-is-flat (length t.sorts) (length t.functions) (length t.rows) (class_count t)
        kinds bases declared costs outputs arities arguments row_functions cells (row-arrays-held long) order
        (subst (λ (x : List ℕ). Listed (length t.rows) x) (sym e) order-listed) m flat heads starts children v
