-- Laws of a table's arrays: the rows of an order can be laid, and what is laid is rows as the relaxation asks them.
-- Assumes nothing.
use Prim.Native.Nat.{ℕ, suc, ◌+◌, ◌*◌, ◌≤◌, ◌<◌}
use mathlib.Core.Path.{◌≡◌, sym, ◌∙◌}
use mathlib.Core.List.{List, [], ◌∷◌}
use native.Mathlib.Omega.{arith}
use borrow.Author.Tests.{eqb-true}
use lib.Dec.{eqb}
use lib.ListN.{length, get_or, take}
use Rattle.choice_rules.specs.Rows.{sum_of}
use Rattle.price_passes.specs.Flat.{ChildIn, FlatOk}
use Rattle.table_rules.specs.Order.{in_turn}
use Rattle.table_rules.specs.Arrays.{arguments_in, Filled}
use Rattle.table_rules.proofs.HasLaws.{by-test, has-get}
use Rattle.table_flat.specs.Rows.{child_number, child_numbers, cells_in, output_in, head_in, children_in, row_in}
use Rattle.table_flat.specs.Arrays.{
  RowArrays,
  Listed,
  Each,
  OutputFits,
  HeadFits,
  CellsFit,
  ArityFits,
  arity_in,
  ChildrenFit,
  RowsFit,
  Mapped,
  Sums,
  Laid,
}
use Rattle.table_flat.proofs.ChildLaws.{
  child_numbers-get,
  arguments-length,
  cells-length,
  arguments-get,
  cells-get,
  children_in-length,
}
use Rattle.table_flat.proofs.RowLaws.{in_turn-length, laid-rows, laid-flat}

sum_of-most : (f : ℕ → ℕ) (l : List ℕ) → Each (λ x. f x ≤ 8) l → sum_of f l ≤ length l * 8
unfolding sum_of
sum_of-most f [] h = omega arith
sum_of-most f (x ∷ l) h =
    omega (arith, h 0 (omega arith), sum_of-most f l (λ k d. h (suc k) (omega arith)))

module _ (kinds bases declared costs outputs arities arguments row_functions cells order : List ℕ)
    (v : RowsFit kinds bases declared costs outputs arities arguments row_functions cells order) where
  -- The children of a row are as many as its function's arity says.
  pub arities-are-lengths :
      Each (λ r. arity_in arities row_functions r ≡ length
      (children_in kinds bases arities arguments row_functions cells r))
      order
  arities-are-lengths k l =
      sym (children_in-length kinds bases arities arguments row_functions cells (get_or order k 0)
      (v.children_fit k l))

  pub children-most :
      length (in_turn (children_in kinds bases arities arguments row_functions cells) order) ≤ length order * 8
  children-most =
      omega (
        arith,
        in_turn-length (children_in kinds bases arities arguments row_functions cells)
            (arity_in arities row_functions) order
            arities-are-lengths,
        sum_of-most (arity_in arities row_functions) order (λ k l. (v.arities_fit k l).most),
      )

  pub laid-of-parts :
      (m : ℕ) (classes heads starts children : List ℕ) →
      Mapped (output_in bases arities outputs row_functions cells) order classes →
      Mapped (head_in declared costs row_functions) order heads →
      Sums (arity_in arities row_functions) order starts →
      Filled children m (in_turn (children_in kinds bases arities arguments row_functions cells) order) →
      Laid kinds bases declared costs outputs arities arguments row_functions cells order m classes
      heads starts children
  unfolding row_in
  laid-of-parts m classes heads starts children os hs ss cs = record {
    classes_are = os;
    heads_are = hs;
    starts_are = ss;
    children_are = cs;
    rows = laid-rows (output_in bases arities outputs row_functions cells) (head_in declared costs row_functions)
        (arity_in arities row_functions) (children_in kinds bases arities arguments row_functions cells)
        order classes heads starts children m os hs ss cs arities-are-lengths;
  }

module _ (sorts functions rows n : ℕ)
    (kinds bases declared costs outputs arities arguments row_functions cells : List ℕ)
    (v : RowArrays sorts functions rows n kinds bases declared costs outputs arities arguments
    row_functions cells) where
  module _ (r : ℕ) (h : r < rows) where
    abbrev f : ℕ
    f = get_or row_functions r 0

    arity_most : get_or arities f 0 ≤ 8
    arity_most = v.columns.arity_most f (v.function_below r h)

    arguments-room : f * 8 + get_or arities f 0 ≤ length arguments
    arguments-room = omega (arith, arity_most, v.columns.arguments_long, v.function_below r h)

    cells-room : r * 9 + get_or arities f 0 < length cells
    cells-room = omega (arith, arity_most, v.cells_long)

    output-fits : OutputFits bases arities outputs row_functions cells r
    output-fits = record {
      row = omega (arith, v.row_functions_long);
      arity = omega (arith, v.function_below r h, v.columns.arities_long);
      output = omega (arith, v.function_below r h, v.outputs_long);
      sort = omega (arith, v.output_below f (v.function_below r h), v.bases_long);
      cell = cells-room;
      small = omega (arith, v.output_class r h, v.few_classes);
    }

    head-fits : HeadFits declared costs row_functions r
    head-fits = record {
      row = omega (arith, v.row_functions_long);
      declared_long = omega (arith, v.function_below r h, v.declared_long);
      costs_long = omega (arith, v.function_below r h, v.costs_long);
    }

    arity-fits : ArityFits arities row_functions r
    arity-fits = record {
      row = omega (arith, v.row_functions_long);
      arity = omega (arith, v.function_below r h, v.columns.arities_long);
      most = arity_most;
    }

    argument-below : (j : ℕ) → j < length (arguments_in arities arguments f) → get_or
        (arguments_in arities arguments f) j 0 < sorts
    argument-below j l =
        v.columns.below f (v.function_below r h) (get_or (arguments_in arities arguments f) j 0)
        (has-get (arguments_in arities arguments f) j l)

    cells_fit : CellsFit kinds bases (arguments_in arities arguments f) (cells_in arities cells f r)
    cells_fit = record {
      kind = λ j l. omega (arith, argument-below j l, v.kinds_long);
      base = λ j l. omega (arith, argument-below j l, v.bases_long);
      base_small = λ j l. v.base_small (get_or (arguments_in arities arguments f) j 0) (argument-below j l);
      cell_small = λ j l.
          let t : j < get_or arities f 0 = omega
          (arith, arguments-length arities arguments cells f r arguments-room) in
          rw (cells-get arities arguments cells f r j t) (v.cell_small r j h t);
    }

    children_fit : ChildrenFit kinds bases arities arguments row_functions cells r
    children_fit = record {
      row = omega (arith, v.row_functions_long);
      arity = omega (arith, v.function_below r h, v.columns.arities_long);
      arguments_long = arguments-room;
      cells_long = omega (arith, cells-room);
      fit = cells_fit;
    }

    -- A child that is a class is one of the n.
    children-each : Each (ChildIn n) (children_in kinds bases arities arguments row_functions cells r)
    unfolding children_in child_number
    children-each j l small =
        let a = arguments-length arities arguments cells f r arguments-room in
        let b = cells-length arities arguments cells f r (omega (arith, cells-room)) in
        let t : j < get_or arities f 0 =
        omega (arith, children_in-length kinds bases arities arguments row_functions cells r children_fit) in
        let s = get_or arguments (f * 8 + j) 0 in
        let x = get_or cells (r * 9 + j) 0 in
        let e : get_or (child_numbers kinds bases (arguments_in arities arguments f) (cells_in arities cells f r)) j 0
        ≡ child_number kinds bases s x =
        child_numbers-get kinds bases (arguments_in arities arguments f) (cells_in arities cells f r) j (b ∙ sym a)
        (omega arith)
        ∙ rw (arguments-get arities arguments cells f r j t, cells-get arities arguments cells f r j t) in
        by-test (eqb (get_or kinds s 0) 1)
        (λ q.
        let d : child_number kinds bases s x ≡ get_or bases s 0 + x = rw q in
        rw (e ∙ d) (v.child_class r j h t (eqb-true (get_or kinds s 0) 1 q)))
        (λ q.
        let d : child_number kinds bases s x ≡ 512 + x = rw q in
        absurd (omega (arith, e ∙ d)))

  module _ (order : List ℕ) (w : Listed rows order) where
    pub rows_fit : RowsFit kinds bases declared costs outputs arities arguments row_functions cells order
    rows_fit = record {
      few = w.few;
      outputs_fit = λ k l. output-fits (get_or order k 0) (w.below k l);
      heads_fit = λ k l. head-fits (get_or order k 0) (w.below k l);
      arities_fit = λ k l. arity-fits (get_or order k 0) (w.below k l);
      children_fit = λ k l. children_fit (get_or order k 0) (w.below k l);
    }

    -- What is laid is rows over the n classes, as the relaxation asks.
    pub laid-is-flat :
        (m : ℕ) (classes heads starts children : List ℕ) →
        Laid kinds bases declared costs outputs arities arguments row_functions cells order m classes
        heads starts children →
        FlatOk n
        (take (length order) classes) (take (length order) heads) (take (length order + 1) starts) (take m children)
    laid-is-flat m classes heads starts children l =
        laid-flat (output_in bases arities outputs row_functions cells) (head_in declared costs row_functions)
        (arity_in arities row_functions) (children_in kinds bases arities arguments row_functions cells)
        order classes heads starts children m l.classes_are l.heads_are l.starts_are l.children_are
        (arities-are-lengths kinds bases declared costs outputs arities arguments row_functions cells order rows_fit)
        n v.few_classes w.few
        (λ k d. v.output_class (get_or order k 0) (w.below k d))
        (λ k d. children-each (get_or order k 0) (w.below k d))
