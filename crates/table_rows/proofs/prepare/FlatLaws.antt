-- The rows that roots sorts reach, from the arrays of an accepted table. Assumes nothing.
use Prim.Native.Nat.{ℕ, ◌+◌, ◌≤◌, ◌<◌}
use mathlib.Core.Path.{◌≡◌, ap, ◌∙◌, subst}
use mathlib.Core.List.{List}
use native.Mathlib.Omega.{arith}
use lib.ListN.{length, get_or, take}
use lib.Seq.{length-take-le, get_or-take}
use Rattle.file_rules.specs.declared.Counts.{Counts}
use Rattle.file_rules.specs.declared.Table.{Table as Arrays}
use Rattle.file_rules.specs.Table.{Table}
use Rattle.table_rules.specs.Order.{Within, rows_in_order}
use Rattle.table_rules.specs.Arrays.{view_in, Filled, ScanArrays}
use Rattle.table_rules.proofs.OrderLaws.{rows_in_order-length}
use Rattle.table_flat.specs.Classes.{first_class, Bases}
use Rattle.table_flat.specs.Arrays.{arity_in, Each, ArityFits, RowsFit, Room, Sums, Laid}
use Rattle.table_flat.proofs.FillLaws.{sum_of-next}
use Rattle.table_rules.specs.Rules.Classes.{class_count}
use Rattle.table_rules.specs.Rules.Order.{view_of, scan_order}
use Rattle.table_rules.specs.Rules.Facts.{Known}
use Rattle.table_rules.proofs.Rules.CoverLaws.{view-sound}
use Rattle.table_rows.proofs.Held.KnownLaws.{known-of-accepted}
use Rattle.table_rows.proofs.Held.HeldLaws.{class-count-held}
use Rattle.table_rows.proofs.Held.ArrayLaws.{padded-long, scan-arrays-held, order-held}
use Rattle.table_rows.proofs.Held.RowLaws.{order-listed, rows-fit-scanned, laid-scanned, laid-flat-scanned}
use Rattle.table_rows.specs.Given.{stands}
use Rattle.table_rows.specs.Flattened.{Flattened}

-- The starts of two neighbours are at most eight apart.
sums-arity :
    (arities row_functions order starts : List ℕ) →
    Sums (arity_in arities row_functions) order starts →
    Each (ArityFits arities row_functions) order →
    (i : ℕ) →
    i < length order →
    get_or (take (length order + 1) starts) (i + 1) 0 ≤ get_or (take (length order + 1) starts) i 0 + 8
sums-arity arities row_functions order starts v fit i l =
    let f = arity_in arities row_functions in
    let a = get_or-take (length order + 1) starts (i + 1) 0 (omega arith) in
    let b = get_or-take (length order + 1) starts i 0 (omega arith) in
    omega (arith, a, b, v.is (i + 1) (omega arith), v.is i (omega arith), sum_of-next f order i l, (fit i l).most)

module _ (q : Counts) (x : Arrays) (t : Table) (h : stands q x t) where
  known : Known t
  known = known-of-accepted t h.accepted

  pub sorts_few : q.sorts ≤ 31
  sorts_few = omega (arith, known.few_sorts, h.sorts_are)

  pub classes-long : q.sorts ≤ length x.sorts.classes
  classes-long = rw h.held.sorts_held.classes_are (padded-long 32 q.sorts _ (omega (arith, sorts_few)))

  -- The classes of all sorts, which are few.
  count_is : first_class x.sorts.classes q.sorts ≡ class_count t
  count_is =
      subst (λ (n : ℕ). first_class x.sorts.classes n ≡ class_count t) h.sorts_are
      (class-count-held t known _ _ _ _ _ _ _ _ _ _ _ _ _ h.held)

  pub count-few : first_class x.sorts.classes q.sorts ≤ 512
  count-few = omega (arith, count_is, known.few_classes)

  module _ (roots : List ℕ) (l : Within q.sorts roots) where
    below : Within (length t.sorts) roots
    below = rw h.sorts_are l

    -- The arrays are as the scan asks.
    pub scan-ready :
        (order : List ℕ) →
        1024 ≤ length order →
        ScanArrays q.sorts q.functions q.rows roots x.functions.outputs x.functions.arities x.functions.arguments
        x.functions.unextractable x.functions.hidden x.rows.functions x.rows.subsumed order
    scan-ready order k =
        rw (h.sorts_are, h.functions_are, h.rows_are) at
        (scan-arrays-held t known _ _ _ _ _ _ _ _ _ _ _ _ _ h.held roots order below (omega (arith, known.few_rows)))

    module _ (n : ℕ) (order : List ℕ)
        (filled : Filled order n
        (rows_in_order (view_in q.sorts q.functions q.rows x.functions.outputs x.functions.arities
        x.functions.arguments x.functions.unextractable x.functions.hidden
        x.rows.functions x.rows.subsumed) roots)) where
      order_is : take n order ≡ scan_order t roots
      order_is =
          order-held t known _ _ _ _ _ _ _ _ _ _ _ _ _ h.held roots n order
          (rw (← h.sorts_are, ← h.functions_are, ← h.rows_are) at filled)

      pub order_length : length (take n order) ≡ n
      order_length = length-take-le n order filled.room

      order-few : n ≤ length t.rows
      unfolding scan_order view_of
      order-few =
          omega (
            arith,
            order_length,
            ap length order_is,
            rows_in_order-length (view_of t) roots (view-sound t known roots below),
          )

      -- The rows in scan order can be laid, and there is room for them.
      module _ (bases : List ℕ) (numbered : Bases q.sorts x.sorts.classes bases) (long : q.sorts ≤ length bases) where
        bases-are : Bases (length t.sorts) x.sorts.classes bases
        bases-are s d = numbered s (omega (arith, h.sorts_are))

        bases_long : length t.sorts ≤ length bases
        bases_long = omega (arith, h.sorts_are)

        pub lay-ready :
            RowsFit x.sorts.kinds bases x.functions.declared x.functions.costs x.functions.outputs
            x.functions.arities x.functions.arguments x.rows.functions x.rows.cells (take n order)
        lay-ready =
            rows-fit-scanned t known _ _ _ _ _ _ _ _ _ _ _ _ _ h.held bases bases-are roots below (take n order)
            order_is bases_long

        pub lay-room :
            (flat heads starts children : List ℕ) →
            1024 ≤ length flat → 1024 ≤ length heads → 1024 < length starts → 8192 ≤ length children →
            Room (take n order) flat heads starts children
        lay-room flat heads starts children a b c d = record {
          outputs_room = omega (arith, order_length, order-few, known.few_rows);
          heads_room = omega (arith, order_length, order-few, known.few_rows);
          starts_room = omega (arith, order_length, order-few, known.few_rows);
          children_room = omega (arith, order_length, order-few, known.few_rows);
        }

        -- What is laid is the rows that the roots sorts reach.
        pub flattened :
            (m w : ℕ) (flat heads starts children : List ℕ) →
            w ≡ first_class x.sorts.classes q.sorts →
            Laid x.sorts.kinds bases x.functions.declared x.functions.costs x.functions.outputs x.functions.arities
            x.functions.arguments x.rows.functions x.rows.cells (take n order) m flat heads
            starts
            children →
            Flattened t roots n m w order flat heads starts children
        flattened m w flat heads starts children e v = record {
          few = order-few;
          classes_are = e ∙ count_is;
          order_room = filled.room;
          flat_room = omega (arith, order_length, v.classes_are.room);
          heads_room = omega (arith, order_length, v.heads_are.room);
          starts_room = omega (arith, order_length, v.starts_are.room);
          children_room = v.children_are.room;
          order_is = order_is;
          rows_are = rw order_length at
              (laid-scanned t known _ _ _ _ _ _ _ _ _ _ _ _ _ h.held bases bases-are roots below (take n order) m
              flat heads starts
              children
              order_is v);
          flat_ok = rw order_length at
              (laid-flat-scanned t known _ _ _ _ _ _ _ _ _ _ _ _ _ h.held bases bases-are roots below (take n order)
              m flat heads
              starts
              children order_is bases_long v);
          below = λ i d. rw order_is
              ((order-listed t known _ _ _ _ _ _ _ _ _ _ _ _ _ h.held bases bases-are roots below).below i
              (omega (arith, order_length, ap length order_is)));
          arity = λ i d. subst
              (λ (k : ℕ). get_or (take (k + 1) starts) (i + 1) 0 ≤ get_or (take (k + 1) starts) i 0 + 8) order_length
              (sums-arity x.functions.arities x.rows.functions (take n order) starts v.starts_are
              lay-ready.arities_fit i
              (omega (arith, order_length)));
        }
