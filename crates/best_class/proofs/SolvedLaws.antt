-- The packed rows and the edges of a solved flat table are the plan of the table's own run. Assumes nothing.
use mathlib.Core.Path.{◌≡◌, refl, ap, sym, ◌∙◌, subst}
use mathlib.Core.Bool.{true}
use mathlib.Core.List.{List, [], ◌∷◌, map}
use Prim.Native.Nat.{ℕ, zero, suc, ◌+◌, ◌<◌, ◌≤◌}
use native.Mathlib.Omega.{arith}
use native.Mathlib.Decide.{dec_lt}
use borrow.Author.Tests.{lt-ltb, le-ltb}
use lib.IntN.{ℤ}
use lib.ListN.{length, get_or, replicate}
use Rattle.name.specs.Name.{valid}
use Rattle.name.specs.Entries.{name_at}
use Rattle.term_rules.specs.Lent.{Store}
use Rattle.term_rules.specs.WellFormed.{well_formed}
use Rattle.choice_rules.specs.Rows.{Child, literal, Row, row_at}
use Rattle.choice_rules.specs.Run.{Run, run}
use Rattle.choice_rules.specs.Edges.{edge_of}
use Rattle.choice_rules.proofs.ListLaws.{tabulate-get}
use Rattle.choice_rules.proofs.Demand.OrderLaws.{map-length, map_get, in_order-length, in_order-get}
use Rattle.price_passes.specs.Flat.{top, rows_of, part_of, state_of, ran_to, child_of as flat_child}
use Rattle.price_passes.proofs.FlatLaws.{rows-length, rows_get}
use Rattle.price.proofs.edges.EndLaws.{FlatEdge}
use Rattle.price.specs.Solved.{Solved, Priced}
use Rattle.price.proofs.SolveLaws.{edges-many, edge-found}
use Rattle.table_layout.specs.Packed.{PackReady, PackedRow, Packed}
use Rattle.build.specs.Plan.{plan_of, child_of as plan_number}
use Rattle.build.specs.Building.{state, build_in}
use Rattle.build.specs.Ready.{Label, ChildBelow, Planned}
use Rattle.build.specs.Whole.{left, whole, Ready}
use Rattle.file_rules.specs.Table.{Table}
use Rattle.table_rules.specs.Rules.Classes.{class_count}
use Rattle.table_rules.specs.Rules.Rows.{table_rows, table_row_of}
use Rattle.table_rules.specs.Rules.Order.{scan_order, scanned}
use Rattle.table_rules.specs.Rules.Terms.{name_of}
use Rattle.table_rules.specs.Rules.Choosing.{run_over, run_of, edge_for, edge_row, prices_for}
use Rattle.table_rules.proofs.Rules.CoverLaws.{ReachedClass, one_below, scanned-below}
use Rattle.table_rules.proofs.Rules.AnswerLaws.{run-true}
use Rattle.answer_rules.specs.Plan.{plan_child, plan_children, plan_for, order_for, cost_of}
use Rattle.answer_rules.proofs.AgreeLaws.{Agree, build_in-agrees}
use Rattle.answer_rules.proofs.PlanLaws.{build_rank, build_rank-below, priced-of-build_rank, plan-ranked}
use Rattle.best_class.specs.Flat.{FlatTable}
use Rattle.best_class.proofs.ChildLaws.{InTable, row-children-in, number-children}

-- past its end a list reads 0, and so a rank that is not 0 has its place
pub get_d_past : (l : List ℕ) (i : ℕ) → length l ≤ i → get_or l i 0 ≡ 0
get_d_past [] i h = refl
get_d_past (x ∷ l) zero h = absurd (omega arith)
get_d_past (x ∷ l) (suc i) h = get_d_past l i (omega arith)

pub past-rank : (l : List ℕ) (i : ℕ) → 0 < get_or l i 0 → i < length l
past-rank l i h = go (dec_lt i (length l))
  where
    go : Dec (i < length l) → i < length l
    go (yes a) = a
    go (no a) = absurd (omega (arith, h, get_d_past l i (omega (arith, a))))

module _
    (t : Table) (root : ℕ) (outputs heads starts children order functions labels : List ℕ) (values : List ℤ)
    (v : FlatTable t root outputs heads starts children order functions labels values) where
  pub order_length : length order ≡ length outputs
  unfolding scanned
  order_length =
      ap (λ (x : List ℕ). length x) v.order_is
      ∙ sym (in_order-length (table_rows t) (scan_order t (root ∷ [])))
      ∙ sym (ap (λ (x : List Row). length x) v.rows_are)
      ∙ rows-length outputs heads starts children

  pub order_below : (i : ℕ) → i < length order → get_or order i 0 < length t.rows
  order_below i h =
      subst (λ (x : List ℕ). get_or x i 0 < length t.rows) (sym v.order_is)
      (scanned-below t v.known (root ∷ []) (one_below (length t.sorts) root v.root_below) i
      (subst (λ (x : List ℕ). i < length x) v.order_is h))

  -- the children of row i of the scan order
  pub part-children :
      (i : ℕ) → i < length order → map flat_child (part_of starts children i) ≡ (row_at (table_rows t) (get_or order i 0)
      ).children
  unfolding scanned
  part-children i h =
      let l : i < length outputs = omega (arith, order_length) in
      let m : i < length (scan_order t (root ∷ [])) = subst (λ (x : List ℕ). i < length x) v.order_is h in
      ap (λ (x : Row). x.children)
      (sym (rows_get outputs heads starts children i l)
      ∙ ap (λ (x : List Row). row_at x i) v.rows_are
      ∙ in_order-get (table_rows t) (scan_order t (root ∷ [])) i m
      ∙ ap (λ (x : List ℕ). row_at (table_rows t) (get_or x i 0)) (sym v.order_is))

  pub part_in :
      (i : ℕ) →
      i < length order →
      (j : ℕ) →
      j < length (part_of starts children i) →
      InTable t (flat_child (get_or (part_of starts children i) j 0))
  part_in i h j l =
      let e = part-children i h in
      let m : j < length (row_at (table_rows t) (get_or order i 0)).children =
      subst (λ (x : List Child). j < length x) e
      (subst (λ (n : ℕ). j < n) (sym (map-length flat_child (part_of starts children i))) l) in
      subst (InTable t)
      (sym (ap (λ (x : List Child). get_or x j (literal 0)) e)
      ∙ map_get flat_child (part_of starts children i) j 0 (literal 0) l)
      (row-children-in t v.known (get_or order i 0) (order_below i h) j m)

  -- the rows can be packed
  literal-narrow : (x : ℕ) → 512 ≤ x → InTable t (flat_child x) → x < 65536
  unfolding flat_child
  literal-narrow x b i =
      let q = rw (le-ltb x 512 b, flat_child) at i in
      omega (arith, q, v.known.few_literals)

  child-narrow :
      (i : ℕ) →
      i < length order →
      (j : ℕ) →
      j < length (part_of starts children i) →
      get_or (part_of starts children i) j 0 < 65536
  child-narrow i h j l = go (dec_lt (get_or (part_of starts children i) j 0) 512)
    where
      go : Dec (get_or (part_of starts children i) j 0 < 512) → get_or (part_of starts children i) j 0 < 65536
      go (yes a) = omega (arith, a)
      go (no a) = literal-narrow (get_or (part_of starts children i) j 0) (omega (arith, a)) (part_in i h j l)

  pub pack-ready : PackReady order functions outputs starts children
  pack-ready = record {
    few_rows = v.flat.few_rows;
    order_length = order_length;
    starts_length = v.flat.starts_length;
    few_functions = v.functions_few;
    row = λ i h. omega (arith, order_below i (omega (arith, h, order_length)), v.functions_long);
    function = λ i h. omega (arith, v.function_few (get_or order i 0) (order_below i (omega (arith, h, order_length))));
    output = λ i h. omega (arith, v.flat.outputs_in i h, v.flat.few_classes);
    rise = v.flat.starts_rise;
    few = λ i h. v.arity i (omega (arith, h, order_length));
    inside = v.flat.starts_in;
    narrow = λ i h. child-narrow i (omega (arith, h, order_length));
  }

  pub row_label : (r : ℕ) → r < length t.rows → Label labels (get_or functions r 0)
  row_label r b = record {
    entry = v.label_place r b;
    short = v.label_short r b;
    named =
        subst (λ (n : List ℕ). valid n ≡ true) (sym (v.label r b))
        (v.known.name (table_row_of t r).function (v.known.function r b));
  }

  module _
      (costs ranks edges : List ℕ) (passes last : ℕ) (long : length ranks ≡ class_count t)
      (w : Solved (class_count t) passes last outputs heads starts children costs ranks edges)
    where
      -- the run that was made is the table's own
      pub run_is : run_of t root ≡ ran_to costs ranks last passes
      unfolding run_over
      run_is = sym (w.ran ∙ ap (λ (x : List Row). run top x (class_count t)) v.rows_are)

      edge-is : (c : ℕ) → c < length ranks → get_or edges c 0 ≡ edge_for t (root ∷ []) c
      unfolding edge_for
      edge-is c h =
          ap (λ (x : List ℕ). get_or x c 0) w.edges_are
          ∙ tabulate-get (edge_of top costs ranks (rows_of outputs heads starts children)) (length ranks) c 0
          h
          ∙ ap (λ (x : List Row). edge_of top costs ranks x c) v.rows_are
          ∙ ap (λ (x : Run). edge_of top x.state.costs x.state.ranks (scanned t (root ∷ [])) c) (sym run_is)

      pub rank_is : (c : ℕ) → order_for (prices_for t root) c ≡ get_or ranks c 0
      rank_is c = ap (λ (x : Run). get_or x.state.ranks c 0) run_is

      pub cost-is : (c : ℕ) → cost_of (prices_for t root) c ≡ get_or costs c 0
      cost-is c = ap (λ (x : Run). get_or x.state.costs c 0) run_is

      -- the rank by which the builder goes: 0 of a class that has no term
      abbrev rank : ℕ → ℕ
      rank = build_rank (prices_for t root)

      pub priced-of-rank : (c : ℕ) → 0 < rank c → (c < length ranks) × Priced costs ranks c
      priced-of-rank c z =
          let q = priced-of-build_rank (prices_for t root) c z in
          let r : 0 < get_or ranks c 0 = subst (λ (n : ℕ). 0 < n) (rank_is c) q.ranked in
          (past-rank ranks c r, record { ranked = r; below = subst (λ (n : ℕ). n < top) (cost-is c) q.below })

      pub rank-of-priced : (c : ℕ) → Priced costs ranks c → rank c ≡ get_or ranks c 0
      rank-of-priced c p = build_rank-below (prices_for t root) c (rw (cost-is c) p.below) ∙ rank_is c

      module _ (c : ℕ) (h : c < length ranks) (p : Priced costs ranks c) where
        edge : FlatEdge (state_of costs ranks last) outputs starts children c (get_or edges c 0)
        edge =
            edge-found (class_count t) passes last outputs heads starts children costs ranks edges v.flat w c h p

        place : get_or edges c 0 < length order
        place = omega (arith, edge.known, order_length)

        -- its row is the row of the table's own edge
        pub row_is : get_or order (get_or edges c 0) 0 ≡ edge_row t (root ∷ []) c
        unfolding edge_row
        row_is =
            ap (λ (x : List ℕ). get_or x (get_or edges c 0) 0) v.order_is
            ∙ ap (λ (x : ℕ). get_or (scan_order t (root ∷ [])) x 0) (edge-is c h)

        row_below : get_or order (get_or edges c 0) 0 < length t.rows
        row_below = order_below (get_or edges c 0) place

        -- a child of it can be built
        child-below :
            (j : ℕ) →
            j < length (part_of starts children (get_or edges c 0)) →
            ChildBelow rank (rank c) values (get_or (part_of starts children (get_or edges c 0)) j 0)
        unfolding flat_child
        child-below j l =
            let x : ℕ = get_or (part_of starts children (get_or edges c 0)) j 0 in
            record {
              ranked = λ m.
                  let u = rw (lt-ltb x 512 m, flat_child) at (edge.under j l) in
                  rw (rank-of-priced x (record { ranked = u.0; below = u.2 })) u.0;
              falls = λ m.
                  let u = rw (lt-ltb x 512 m, flat_child) at (edge.under j l) in
                  rw (rank-of-priced x (record { ranked = u.0; below = u.2 }), rank-of-priced c p) u.1;
              known = λ m.
                  let i = rw (le-ltb x 512 m, flat_child) at (part_in (get_or edges c 0) place j l) in
                  omega (arith, i, v.values_length);
            }

      pub inside : (c : ℕ) → 0 < rank c → c < 512
      inside c z = omega (arith, (priced-of-rank c z).0, long, v.flat.few_classes)

      module _ (rows : List ℕ) (pk : Packed order functions outputs starts children rows (length outputs)) where
        module _ (c : ℕ) (h : c < length ranks) (p : Priced costs ranks c) where
          row : PackedRow order functions outputs starts children rows (get_or edges c 0)
          row = pk.each (get_or edges c 0) (edge c h p).known

          pub name-agrees : (plan_of rows edges labels values).name c ≡ (plan_for t (prices_for t root)).name c
          unfolding plan_for
          name-agrees =
              ap (name_at labels) row.function
              ∙ v.label (get_or order (get_or edges c 0) 0) (row_below c h p)
              ∙ ap (name_of t) (row_is c h p)

          pub children-agree : (plan_of rows edges labels values).children c ≡ (plan_for t (prices_for t root)).children c
          unfolding plan_for plan_children
          children-agree =
              ap (map (plan_number values)) row.children_are
              ∙ number-children t values v.value (part_of starts children (get_or edges c 0))
              (part_in (get_or edges c 0) (place c h p))
              ∙ ap (map (plan_child t)) (part-children (get_or edges c 0) (place c h p))
              ∙ ap (λ (r : ℕ). map (plan_child t) (row_at (table_rows t) r).children) (row_is c h p)

        pub planned : (c : ℕ) → 0 < rank c → Planned rank rows edges labels values c
        planned c z =
            let q = priced-of-rank c z in
            let e = edge c q.0 q.1 in
            let r = row c q.0 q.1 in
            record {
              place =
                  omega (
                    arith,
                    q.0,
                    edges-many (class_count t) passes last outputs heads starts children costs ranks edges v.flat w,
                  );
              whole = omega (arith, e.known, pk.long);
              label =
                  subst (Label labels) (sym r.function)
                  (row_label (get_or order (get_or edges c 0) 0) (row_below c q.0 q.1));
              few = r.few;
              child =
                  subst
                  (λ (ks : List ℕ). (j : ℕ) → j < length ks → ChildBelow rank (rank c) values (get_or ks j 0))
                  (sym r.children_are) (child-below c q.0 q.1);
            }

        pub ready :
            (s : Store) → well_formed s ≡ true → (c : ℕ) → Priced costs ranks c →
            Ready rows edges labels values s (get_or ranks c 0) c
        ready s f c p = record {
          rank = rank;
          planned = planned;
          inside = inside;
          formed = f;
          ranked = rw (rank-of-priced c p) p.ranked;
          enough = omega (arith, rank-of-priced c p);
        }

        pub agree : Agree (plan_for t (prices_for t root)) (plan_of rows edges labels values) rank
        agree = record {
          name = λ c l. let q = priced-of-rank c l in sym (name-agrees c q.0 q.1);
          children = λ c l. let q = priced-of-rank c l in sym (children-agree c q.0 q.1);
          lower =
              (plan-ranked t v.known (ReachedClass t root) (prices_for t root)
              (run-true t v.known root v.root_below)).lower;
        }

        -- what is built by the rows is what the table's own plan builds
        pub whole_is :
            (s : Store) (c : ℕ) →
            Priced costs ranks c →
            whole (plan_of rows edges labels values) (get_or ranks c 0) s c
            ≡ whole (plan_for t (prices_for t root)) (order_for (prices_for t root) c) s c
        unfolding whole
        whole_is s c p =
            ap (λ (n : ℕ). left s (build_in (plan_of rows edges labels values) (n + 1) (state (replicate 512 0) s) c))
            (sym (rank_is c))
            ∙ ap (left s)
            (sym
            (build_in-agrees (plan_for t (prices_for t root)) (plan_of rows edges labels values) rank agree
            (order_for (prices_for t root) c + 1) (state (replicate 512 0) s) c (rw (rank-of-priced c p) p.ranked)))
