-- The rows of a solved flat table: which are variants, what they cost, and that the kept ones can be built. Assumes
-- nothing.
use mathlib.Core.Path.{◌≡◌, ap, sym, ◌∙◌}
use mathlib.Core.Bool.{◌&&◌}
use mathlib.Core.List.{List, [], ◌∷◌}
use Prim.Native.Nat.{ℕ, ◌+◌, ◌*◌, ◌-◌, ◌<◌, ◌≤◌}
use native.Mathlib.Omega.{arith}
use lib.Dec.{eqb}
use lib.IntN.{ℤ}
use lib.ListN.{length, get_or, take, drop, length-take, length-drop}
use Rattle.name.specs.Entries.{name_at}
use Rattle.choice_rules.specs.Rows.{Row, row_at}
use Rattle.choice_rules.specs.Run.{Run, row_priced, row_cost}
use Rattle.table_layout.specs.Rows.{width, file_row_at, function_at, count_at}
use Rattle.table_layout.specs.Packed.{Packed}
use Rattle.price_passes.specs.Flat.{row_of, part_of, ran_to, child_of}
use Rattle.price_passes.proofs.FlatLaws.{rows-length, rows_get}
use Rattle.choice_rules.proofs.Demand.OrderLaws.{map-length}
use Rattle.price.specs.Solved.{Solved}
use Rattle.file_rules.specs.Table.{Table}
use Rattle.table_rules.specs.Rules.Classes.{class_count}
use Rattle.table_rules.specs.Rules.Rows.{table_row_of}
use Rattle.table_rules.specs.Rules.Order.{scanned}
use Rattle.table_rules.specs.Rules.Choosing.{limit, run_of, prices_for}
use Rattle.table_rules.specs.Rules.Terms.{name_of}
use Rattle.table_rules.specs.Rules.Facts.{arity_of}
use Rattle.table_rules.proofs.Rules.CoverLaws.{children-length}
use Rattle.table_rules.specs.Order.{picked}
use Rattle.table_rules.proofs.PickedLaws.{Passes, picked_same}
use Rattle.variant_order.specs.Keys.{no_later}
use Rattle.order.specs.Sort.{sorted}
use Rattle.variant_order.specs.Arrays.{cells_in, key_in, KeysIn}
use Rattle.answer_rules.specs.Variants.{file_row, cost_for, is_variant, variant_rows, key_for, kept_rows}
use Rattle.best_class.specs.Flat.{FlatTable}
use Rattle.best_class.proofs.SolvedLaws.{order_length, order_below, part-children, run_is}
use Rattle.variant_rows.specs.Candidates.{PartsIn, price_of, Prices, is_candidate}
use Rattle.variant_rows.specs.Kept.{KeptReady, kept_in}
use Rattle.variant_rows.proofs.KeptLaws.{picked-below}
use Rattle.variants_root.specs.Flat.{VariantTable}
use Rattle.variants_root.proofs.kept_rows.SortLaws.{sorted-by-keys, kept-passes}

module _
    (t : Table) (root : ℕ) (outputs heads starts children order functions labels : List ℕ) (values : List ℤ)
    (cells : List ℕ)
    (v : VariantTable t root outputs heads starts children order functions labels values cells) where
  abbrev f : FlatTable t root outputs heads starts children order functions labels values
  f = v.is

  pub rows-many : length order ≡ length outputs
  rows-many = order_length t root outputs heads starts children order functions labels values f

  below : (i : ℕ) → i < length outputs → get_or order i 0 < length t.rows
  below i h =
      order_below t root outputs heads starts children order functions labels values f i (omega (arith, h, rows-many))

  scanned-many : length (scanned t (root ∷ [])) ≡ length outputs
  scanned-many = sym (ap (λ (x : List Row). length x) f.rows_are) ∙ rows-length outputs heads starts children

  row_is :
      (i : ℕ) →
      i < length outputs →
      row_at (scanned t (root ∷ [])) i ≡ row_of (get_or outputs i 0) (get_or heads i 0) (part_of starts children i)
  row_is i h = sym (ap (λ (x : List Row). row_at x i) f.rows_are) ∙ rows_get outputs heads starts children i h

  pub file_row-read : (i : ℕ) → get_or order i 0 ≡ file_row (prices_for t root) i
  file_row-read i = ap (λ (x : List ℕ). get_or x i 0) f.order_is

  parts : (n : ℕ) → n ≡ class_count t → PartsIn n (length outputs) starts children
  parts n e = record {
    few = f.flat.few_rows;
    starts_long = omega (arith, f.flat.starts_length);
    rise = f.flat.starts_rise;
    inside = f.flat.starts_in;
    kids = λ i h l. omega (arith, e, f.flat.children_in i h l);
  }

  pub name-is :
      (i : ℕ) →
      i < length outputs →
      name_at labels (get_or functions (get_or order i 0) 0) ≡ name_of t (file_row (prices_for t root) i)
  name-is i h = f.label (get_or order i 0) (below i h) ∙ ap (name_of t) (file_row-read i)

  pub few-kids : (i : ℕ) → i < length outputs → length (part_of starts children i) ≤ 8
  few-kids i h =
      let a = f.arity i (omega (arith, h, rows-many)) in
      omega (
        arith,
        a,
        length-take (get_or starts (i + 1) 0 - get_or starts i 0) (drop (get_or starts i 0) children),
      )

  -- a row has as many children as its function has arguments
  kids-many : (i : ℕ) → i < length outputs → length (part_of starts children i) ≡ arity_of t (get_or order i 0)
  kids-many i h =
      sym (map-length child_of (part_of starts children i))
      ∙ ap length
      (part-children t root outputs heads starts children order functions labels values f i
      (omega (arith, h, rows-many)))
      ∙ children-length t f.known (get_or order i 0) (below i h)

  module _ (packed : List ℕ) (pk : Packed order functions outputs starts children packed (length outputs)) where
    count_is : (i : ℕ) → i < length outputs → count_at packed i ≡ arity_of t (get_or order i 0)
    count_is i h =
        omega (
          arith,
          h,
          pk.long,
          (pk.each i h).few,
          ap length (pk.each i h).children_are,
          length-take (count_at packed i) (drop (i * width + 4) packed),
          length-drop (i * width + 4) packed,
          kids-many i h,
        )

    keys : (prices : List ℕ) → length outputs ≤ length prices → KeysIn prices packed labels cells (length outputs)
    keys prices l = record {
      costs_long = l;
      few = f.flat.few_rows;
      long = pk.long;
      name = λ i h. rw (pk.each i h).function (f.label_place (get_or order i 0) (below i h));
      name_short = λ i h. rw (pk.each i h).function (f.label_short (get_or order i 0) (below i h));
      cells_long = λ i h.
          omega (arith, (pk.each i h).file_row, below i h, f.functions_long, v.cells_long);
      arity = λ i h. (pk.each i h).few;
    }

    -- all that is asked to find the kept rows
    pub kept-ready :
        (costs ranks prices list : List ℕ) →
        length costs ≡ class_count t →
        length costs ≡ length ranks →
        1024 ≤ length prices →
        1024 ≤ length list →
        KeptReady (length outputs) costs ranks heads starts children packed labels cells prices list
    kept-ready costs ranks prices list e q a b = record {
      parts = parts (length costs) e;
      ranks_length = sym q;
      heads_length = f.flat.heads_length;
      keys = keys prices (omega (arith, a, f.flat.few_rows));
      list_long = omega (arith, b, f.flat.few_rows);
    }

    name-packed :
        (i : ℕ) → i < length outputs → name_at labels (function_at packed i) ≡ name_of t (file_row (prices_for t root) i)
    name-packed i h = ap (name_at labels) (pk.each i h).function ∙ name-is i h

    cells-packed :
        (i : ℕ) →
        i < length outputs →
        cells_in cells (file_row_at packed i) (count_at packed i) ≡ (table_row_of t (file_row (prices_for t root) i)).cells
    cells-packed i h =
        ap (λ (r : ℕ). cells_in cells r (count_at packed i)) (pk.each i h).file_row
        ∙ ap (cells_in cells (get_or order i 0)) (count_is i h)
        ∙ v.cells_are (get_or order i 0) (below i h)
        ∙ ap (λ (r : ℕ). (table_row_of t r).cells) (file_row-read i)

  module _
      (costs ranks edges : List ℕ) (passes last : ℕ) (long : length ranks ≡ class_count t)
      (w : Solved (class_count t) passes last outputs heads starts children costs ranks edges) where
    ran : run_of t root ≡ ran_to costs ranks last passes
    ran =
        run_is t root outputs heads starts children order functions labels values f costs ranks edges passes last long w

    pub passes-are : (run_of t root).passes ≡ passes
    passes-are = ap (λ (x : Run). x.passes) ran

    candidate-is :
        (c i : ℕ) →
        i < length outputs →
        is_candidate ranks outputs starts children c i ≡ is_variant t (prices_for t root) c i
    unfolding is_variant scanned
    candidate-is c i h =
        sym
        (ap (λ (r : Row). eqb r.output c && row_priced (run_of t root).state.ranks r) (row_is i h)
        ∙ ap
        (λ (x : Run).
        eqb (get_or outputs i 0) c
        && row_priced x.state.ranks (row_of (get_or outputs i 0) (get_or heads i 0) (part_of starts children i)))
        ran)

    pub price-is : (i : ℕ) → i < length outputs → price_of costs heads starts children i ≡ cost_for t (prices_for t root) i
    unfolding cost_for row_cost scanned
    price-is i h =
        sym
        (ap (λ (r : Row). row_cost limit (run_of t root).state.costs r) (row_is i h)
        ∙ ap
        (λ (x : Run).
        row_cost limit x.state.costs (row_of (get_or outputs i 0) (get_or heads i 0) (part_of starts children i)))
        ran)

    rows_are : (c : ℕ) → picked (is_candidate ranks outputs starts children c) 0 (length outputs) ≡ variant_rows t (prices_for t root) c
    unfolding variant_rows scanned
    rows_are c =
        picked_same (is_candidate ranks outputs starts children c) (is_variant t (prices_for t root) c) 0 (length outputs)
        (λ x l m. candidate-is c x (omega (arith, m)))
        ∙ ap (picked (is_variant t (prices_for t root) c) 0) (sym scanned-many)

    module _ (prices : List ℕ) (p : Prices costs heads starts children (length outputs) prices) where
      pub cost-is : (i : ℕ) → i < length outputs → get_or prices i 0 ≡ cost_for t (prices_for t root) i
      cost-is i h = p i h ∙ price-is i h

      module _ (packed : List ℕ) (pk : Packed order functions outputs starts children packed (length outputs)) where
        key-is : (i : ℕ) → i < length outputs → key_in prices packed labels cells i ≡ key_for t (prices_for t root) i
        unfolding key_in key_for
        key-is i h =
            let a = cost-is i h in
            let b = name-packed packed pk i h in
            let d = cells-packed packed pk i h in
            λ j. record { cost = a j; name = b j; cells = d j }

        pub kept-is :
            (c most : ℕ) →
            kept_in prices ranks outputs starts children packed labels cells c most
            ≡ kept_rows t (prices_for t root) c most
        unfolding kept_rows
        kept-is c most =
            ap (take most)
            (sorted-by-keys (length outputs) (key_in prices packed labels cells) (key_for t (prices_for t root)) key-is
            (picked (is_candidate ranks outputs starts children c) 0 (length outputs))
            (picked-below (is_candidate ranks outputs starts children c) (length outputs))
            ∙ ap (sorted (no_later (key_for t (prices_for t root)))) (rows_are c))

        -- a kept row is one of the class, and each of its children has a cost
        pub kept_from :
            (c most j : ℕ) →
            j < length (kept_in prices ranks outputs starts children packed labels cells c most) →
            Passes (is_candidate ranks outputs starts children c)
            (get_or (kept_in prices ranks outputs starts children packed labels cells c most) j 0) 0
            (length outputs)
        kept_from c most j h =
            kept-passes (key_in prices packed labels cells) (is_candidate ranks outputs starts children c)
            (length outputs) most j h
