-- What stands in the arrays of a table, number for number. Assumes nothing.
use Prim.Native.Nat.{ℕ, zero, suc, ◌+◌, ◌*◌, ◌≤◌, ◌<◌}
use mathlib.Core.Path.{◌≡◌, refl, ap, ◌∙◌, fun_ext}
use mathlib.Core.Bool.{Bool, ◌&&◌}
use mathlib.Core.List.{List, [], ◌∷◌, map}
use native.Mathlib.Omega.{arith}
use native.Mathlib.Decide.{dec_lt}
use lib.Dec.{eqb}
use lib.ListN.{length, get_or, take, drop, length-map, get_or-eq_default}
use lib.Seq.{take_all}
use Rattle.file_rules.specs.Table.{Sort, Table, Function, Row}
use Rattle.file_rules.specs.Every.{Every, every-nil, every-cons}
use Rattle.file_rules.specs.Sorts.{classes_of}
use Rattle.table_rules.specs.View.{ScanView}
use Rattle.table_rules.specs.Arrays.{arguments_in, view_in}
use Rattle.table_flat.specs.Classes.{total, first_class, Bases}
use Rattle.table_rules.specs.Rules.Classes.{no_sort, sort_of, class_count, flat_class}
use Rattle.table_rules.specs.Rules.Rows.{no_function, no_table_row, function_of, table_row_of, usable_function}
use Rattle.table_rules.specs.Rules.Order.{view_of}
use Rattle.table_rules.specs.Rules.Facts.{arity_of, Known}
use Rattle.table_rows.specs.Held.{Holds}
use Rattle.table_rows.proofs.Held.PlaceLaws.{pad-map-get, pad-take, block-take, block-get}

-- What holds at every number holds of every element.
pub every-of-get :
    {A : Type 0} (P : A → Type 0) (xs : List A) (d : A) → ((k : ℕ) → k < length xs → P (get_or xs k d)) → Every P xs
every-of-get P [] d h = every-nil
every-of-get P (x ∷ xs) d h = every-cons (h 0 (omega arith)) (every-of-get P xs d (λ k l. h (suc k) (omega arith)))

-- The class counts before a sort.
pub classes_of-take :
    (sorts : List Sort) (s : ℕ) → first_class (map (λ (x : Sort). x.classes) sorts) s ≡ classes_of (take s sorts)
unfolding classes_of total
classes_of-take [] zero = refl
classes_of-take [] (suc s) = refl
classes_of-take (x ∷ xs) zero = refl
classes_of-take (x ∷ xs) (suc s) = ap (λ (n : ℕ). x.classes + n) (classes_of-take xs s)

module _ (t : Table) (known : Known t)
    (kinds classes names declared costs unextractable hidden outputs arities arguments row_functions
    subsumed cells : List ℕ)
    (h : Holds t kinds classes names declared costs unextractable hidden outputs arities arguments
    row_functions subsumed cells) where
  pub kind-held : (s : ℕ) → get_or kinds s 0 ≡ (sort_of t s).kind
  kind-held s =
      rw h.sorts_held.kinds_are (pad-map-get (λ (x : Sort). x.kind) no_sort refl 32 t.sorts s)

  pub declared-held : (f : ℕ) → get_or declared f 0 ≡ (function_of t f).has_cost
  declared-held f =
      rw h.functions_held.declared_are
      (pad-map-get (λ (x : Function). x.has_cost) no_function refl 128 t.functions f)

  pub cost-held : (f : ℕ) → get_or costs f 0 ≡ (function_of t f).cost
  cost-held f =
      rw h.functions_held.costs_are
      (pad-map-get (λ (x : Function). x.cost) no_function refl 128 t.functions f)

  pub unextractable-held : (f : ℕ) → get_or unextractable f 0 ≡ (function_of t f).unextractable
  unextractable-held f =
      rw h.functions_held.unextractable_are
      (pad-map-get (λ (x : Function). x.unextractable) no_function refl 128 t.functions f)

  pub hidden_held : (f : ℕ) → get_or hidden f 0 ≡ (function_of t f).hidden
  hidden_held f =
      rw h.functions_held.hidden_are
      (pad-map-get (λ (x : Function). x.hidden) no_function refl 128 t.functions f)

  pub output-held : (f : ℕ) → get_or outputs f 0 ≡ (function_of t f).output
  output-held f =
      rw h.functions_held.outputs_are
      (pad-map-get (λ (x : Function). x.output) no_function refl 128 t.functions f)

  pub arity-held : (f : ℕ) → get_or arities f 0 ≡ length (function_of t f).arguments
  arity-held f =
      rw h.functions_held.arities_are
      (pad-map-get (λ (x : Function). length x.arguments) no_function refl 128 t.functions f)

  pub function-held : (r : ℕ) → get_or row_functions r 0 ≡ (table_row_of t r).function
  function-held r =
      rw h.rows_held.functions_are
      (pad-map-get (λ (x : Row). x.function) no_table_row refl 1024 t.rows r)

  pub subsumed-held : (r : ℕ) → get_or subsumed r 0 ≡ (table_row_of t r).subsumed
  subsumed-held r =
      rw h.rows_held.subsumed_are
      (pad-map-get (λ (x : Row). x.subsumed) no_table_row refl 1024 t.rows r)

  few-arguments : Every (λ (f : Function). length f.arguments ≤ 8) t.functions
  few-arguments =
      every-of-get (λ (f : Function). length f.arguments ≤ 8) t.functions no_function (λ f l. known.arity f l)

  few-cells : Every (λ (r : Row). length r.cells ≤ 9) t.rows
  few-cells =
      every-of-get (λ (r : Row). length r.cells ≤ 9) t.rows no_table_row
      (λ r l. omega (arith, known.cells r l, known.arity (table_row_of t r).function (known.function r l)))

  pub arguments-held : (f : ℕ) → arguments_in arities arguments f ≡ (function_of t f).arguments
  unfolding arguments_in
  arguments-held f = go (dec_lt f (length t.functions))
    where
      go : Dec (f < length t.functions) → take (get_or arities f 0) (drop
          (f * 8) arguments) ≡ (function_of t f).arguments
      go (yes l) =
          rw (arity-held f, h.functions_held.arguments_are)
          (block-take 1024 8 (λ (x : Function). x.arguments) t.functions few-arguments no_function f l)
      go (no l) =
          let e : function_of t f ≡ no_function = get_or-eq_default t.functions no_function (omega arith) in
          let z : get_or arities f 0 ≡ 0 = arity-held f ∙ ap (λ (x : Function). length x.arguments) e in
          rw (z, e)

  -- A cell of row r.
  pub cell-held :
      (r j : ℕ) → r < length t.rows → j ≤ arity_of t r →
      get_or cells (r * 9 + j) 0 ≡ get_or (table_row_of t r).cells j 0
  cell-held r j l k =
      rw h.rows_held.cells_are
      (block-get 9216 9 (λ (x : Row). x.cells) t.rows few-cells no_table_row r j l (omega
      (arith, known.cells r l)))

  -- The class counts of all sorts together.
  pub class-count-held : first_class classes (length t.sorts) ≡ class_count t
  class-count-held =
      let n : length (map (λ (x : Sort). x.classes) t.sorts) ≡ length t.sorts =
      length-map t.sorts (λ (x : Sort). x.classes) in
      ap (λ (x : List ℕ). first_class x (length t.sorts)) h.sorts_held.classes_are
      ∙ ap total (pad-take 32 (length t.sorts) (map (λ (x : Sort). x.classes) t.sorts) (omega arith))
      ∙ classes_of-take t.sorts (length t.sorts)
      ∙ ap classes_of (take_all (length t.sorts) t.sorts (omega arith))

  -- The first number of a sort.
  module _ (bases : List ℕ) (numbered : Bases (length t.sorts) classes bases) where
    pub base-held : (s : ℕ) → s < length t.sorts → get_or bases s 0 ≡ classes_of (take s t.sorts)
    base-held s l =
        let n : length (map (λ (x : Sort). x.classes) t.sorts) ≡ length t.sorts =
        length-map t.sorts (λ (x : Sort). x.classes) in
        numbered s l
        ∙ ap (λ (x : List ℕ). first_class x s) h.sorts_held.classes_are
        ∙ ap total (pad-take 32 s (map (λ (x : Sort). x.classes) t.sorts) (omega arith))
        ∙ classes_of-take t.sorts s

    pub class-held : (s v : ℕ) → s < length t.sorts → get_or bases s 0 + v ≡ flat_class t s v
    unfolding flat_class
    class-held s v l = ap (λ (n : ℕ). n + v) (base-held s l)

  -- The scan order's view of the arrays is that of the table.
  pub view-held :
      view_in (length t.sorts) (length t.functions) (length
      t.rows) outputs arities arguments unextractable hidden
      row_functions subsumed
      ≡ view_of t
  unfolding view_in view_of usable_function
  view-held =
      let u : ◌≡◌ {A = ℕ → Bool} (λ (f : ℕ). eqb (get_or unextractable f 0) 0 && eqb (get_or hidden f 0) 0)
      (λ (f : ℕ). eqb (function_of t f).unextractable 0 && eqb (function_of t f).hidden 0) =
      fun_ext (λ (f : ℕ). rw (unextractable-held f, hidden_held f)) in
      let o : ◌≡◌ {A = ℕ → ℕ} (λ (f : ℕ). get_or outputs f 0) (λ (f : ℕ). (function_of t f).output) =
      fun_ext output-held in
      let a : ◌≡◌ {A = ℕ → List ℕ} (arguments_in arities arguments) (λ (f : ℕ). (function_of t f).arguments) =
      fun_ext arguments-held in
      let g : ◌≡◌ {A = ℕ → ℕ} (λ (r : ℕ). get_or row_functions r 0) (λ (r : ℕ). (table_row_of t r).function) =
      fun_ext function-held in
      let s : ◌≡◌ {A = ℕ → Bool} (λ (r : ℕ). eqb (get_or subsumed r 0) 0) (λ (r : ℕ). eqb
      (table_row_of t r).subsumed 0) =
      fun_ext (λ (r : ℕ). ap (λ (x : ℕ). eqb x 0) (subsumed-held r)) in
      view-same (length t.sorts) (length t.functions) (length t.rows) u o a g s
    where
      view-same :
          (n m k : ℕ) {u v : ℕ → Bool} {o p : ℕ → ℕ} {a b : ℕ → List ℕ} {g i : ℕ → ℕ} {s w : ℕ → Bool} →
          u ≡ v → o ≡ p → a ≡ b → g ≡ i → s ≡ w →
          ◌≡◌ {A = ScanView}
          (record {
            sorts = n;
            functions = m;
            rows = k;
            usable = u;
            output = o;
            arguments = a;
            function = g;
            unsubsumed = s;
          })
          (record {
            sorts = n;
            functions = m;
            rows = k;
            usable = v;
            output = p;
            arguments = b;
            function = i;
            unsubsumed = w;
          })
      view-same n m k u o a g s = rw (u, o, a, g, s)
