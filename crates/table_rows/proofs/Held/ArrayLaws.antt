-- The arrays of a table are as the scan and the flat rows ask, and what these read there is the table's. Assumes
-- nothing.
use Prim.Native.Nat.{ℕ, suc, ◌*◌, ◌≤◌, ◌<◌}
use mathlib.Core.Path.{◌≡◌, refl, ap, ◌∙◌, subst}
use mathlib.Core.List.{List, [], ◌∷◌, map}
use native.Mathlib.Omega.{arith}
use native.Mathlib.Decide.{ℕ_discrete}
use borrow.Author.Tests.{eq-eqb}
use lib.ListN.{length, take, length-append, length-replicate}
use Rattle.file_rules.specs.Table.{Table}
use Rattle.file_rules.specs.Arrays.{pad_with, pad}
use Rattle.table_rules.specs.Order.{Within, rows_in_order}
use Rattle.table_rules.specs.Arrays.{view_in, Columns, Filled, ScanArrays}
use Rattle.table_rules.proofs.HasLaws.{has-place}
use Rattle.table_flat.specs.Arrays.{Each}
use Rattle.table_rules.specs.Rules.Classes.{sort_of, range_of}
use Rattle.table_rules.specs.Rules.Rows.{function_of, table_row_of}
use Rattle.table_rules.specs.Rules.Order.{scan_order}
use Rattle.table_rules.specs.Rules.Facts.{Known}
use Rattle.table_rules.proofs.Rules.ClassLaws.{classes_of-within}
use Rattle.table_rules.proofs.Rules.CoverLaws.{range_of-eq}
use Rattle.table_rows.specs.Held.{Holds}
use Rattle.table_rows.proofs.Held.HeldLaws.{arity-held, arguments-held, view-held}

-- An array has at least the places it is filled up to.
pub padded-long : (n k : ℕ) (xs : List ℕ) → k ≤ n → k ≤ length (pad n xs)
unfolding pad_with
padded-long n k xs h = simp (length-append, length-replicate) (omega arith)

-- Lists that hold the same all through.
pub map_same : {A : Type 0} (f g : ℕ → A) (l : List ℕ) → Each (λ x. f x ≡ g x) l → map f l ≡ map g l
map_same f g [] h = refl
map_same f g (x ∷ l) h = rw (h 0 (omega arith), map_same f g l (λ k d. h (suc k) (omega arith)))

module _ (t : Table) (known : Known t) where
  -- A class count or the literals: a cell is small.
  pub range-most : (s : ℕ) → s < length t.sorts → range_of t s ≤ 512
  unfolding range_of
  range-most s h = go (ℕ_discrete (sort_of t s).kind 0)
    where
      go : Dec ((sort_of t s).kind ≡ 0) → range_of t s ≤ 512
      go (yes e) =
          let z : range_of t s ≡ length t.literals = rw (eq-eqb (sort_of t s).kind 0 e, range_of) in
          omega (arith, known.few_literals)
      go (no e) = omega (arith, range_of-eq t s e, classes_of-within t.sorts s h, known.few_classes)

  module _
      (kinds classes names declared costs unextractable hidden outputs arities arguments row_functions
      subsumed cells : List ℕ)
      (h : Holds t kinds classes names declared costs unextractable hidden outputs arities arguments
      row_functions subsumed cells) where
    -- The function of a row of the table, and its number.
    abbrev fn : ℕ → ℕ
    fn r = (table_row_of t r).function

    pub columns-held : Columns (length t.sorts) (length t.functions) arities arguments
    columns-held = record {
      arities_long = rw h.functions_held.arities_are (padded-long 128 (length t.functions) _ (omega
          (arith, known.few_functions)));
      arguments_long = rw h.functions_held.arguments_are (padded-long 1024 (length t.functions * 8) _
          (omega (arith, known.few_functions)));
      arity_most = λ f l. rw
          (arity-held t known kinds classes names declared costs unextractable hidden outputs arities
          arguments row_functions subsumed cells h f) (known.arity f l);
      below = λ f l a k.
          let e = arguments-held t known kinds classes names declared costs unextractable hidden outputs arities
          arguments row_functions subsumed cells h f in
          let p = has-place a (function_of t f).arguments (rw e at k) in
          subst (λ (x : ℕ). x < length t.sorts) p.2 (known.argument f p.0 l p.1);
    }

    -- The arrays are as `scan_rows` asks.
    pub scan-arrays-held :
        (roots order : List ℕ) →
        Within (length t.sorts) roots →
        length t.rows ≤ length order →
        ScanArrays (length t.sorts) (length t.functions) (length t.rows) roots outputs arities arguments
        unextractable hidden row_functions subsumed order
    scan-arrays-held roots order l k = record {
      sorts_most = omega (arith, known.few_sorts);
      functions_most = omega (arith, known.few_functions);
      roots_below = l;
      outputs_long = rw h.functions_held.outputs_are (padded-long 128 (length t.functions) _ (omega
          (arith, known.few_functions)));
      unextractable_long = rw h.functions_held.unextractable_are (padded-long 128 (length t.functions) _
          (omega (arith, known.few_functions)));
      hidden_long = rw h.functions_held.hidden_are (padded-long 128 (length t.functions) _ (omega
          (arith, known.few_functions)));
      columns = columns-held;
      row_functions_long = rw h.rows_held.functions_are (padded-long 1024 (length t.rows) _ (omega
          (arith, known.few_rows)));
      subsumed_long = rw h.rows_held.subsumed_are (padded-long 1024 (length t.rows) _ (omega
          (arith, known.few_rows)));
      order_long = k;
    }

    -- What `scan_rows` leaves is the scan order of the table.
    pub order-held :
        (roots : List ℕ) (r : ℕ) (order : List ℕ) →
        Filled order r (rows_in_order (view_in (length t.sorts) (length t.functions) (length
        t.rows) outputs arities
        arguments unextractable hidden row_functions subsumed) roots) →
        take r order ≡ scan_order t roots
    unfolding scan_order
    order-held roots r order w =
        w.held
        ∙ ap (λ v. rows_in_order v roots)
        (view-held t known kinds classes names declared costs unextractable hidden outputs
        arities arguments row_functions subsumed cells h)
