-- The lists that a loaded table leaves are a flat table. Assumes nothing.
use mathlib.Core.Path.{◌≡◌, refl, ap, sym, ◌∙◌, subst}
use mathlib.Core.List.{List, [], ◌∷◌, ◌++◌, map}
use Prim.Native.Nat.{ℕ, suc, ◌+◌, ◌-◌, ◌<◌, ◌≤◌}
use native.Mathlib.Omega.{arith}
use lib.IntN.{ℤ, pos}
use lib.ListN.{length, get_or, take, drop, replicate, length-map}
use lib.Seq.{length-take-le}
use Rattle.name.specs.Entries.{entry_width, entries_length, table_length, length_at, name_at, entry}
use Rattle.name.proofs.EntryLaws.{entry_length, length_at-of-entry, name_at-of-entry}
use Rattle.term_rules.proofs.Adding.NamingLaws.{valid-short}
use Rattle.file_rules.specs.Table.{Function, Row, Table}
use Rattle.file_rules.specs.Every.{Every}
use Rattle.file_rules.specs.Arrays.{pad_with, pad, blocks}
use Rattle.file_rules.proofs.ArraysLaws.{pad_with-length, pad_with-get}
use Rattle.file_rules.proofs.BlockLaws.{every_map, blocks-drop, blocks-length}
use Rattle.table_rules.specs.Rules.Classes.{class_count}
use Rattle.table_rules.specs.Rules.Rows.{no_function, no_table_row, function_of, table_row_of}
use Rattle.table_rules.specs.Rules.Terms.{literal_of, name_of}
use Rattle.table_rules.specs.Rules.Facts.{Known}
use Rattle.table_rows.proofs.Held.PlaceLaws.{pad-map-get}
use Rattle.table_rows.proofs.Held.HeldLaws.{every-of-get}
use Rattle.table_rows.specs.Flattened.{Flattened}
use Rattle.table_rows.specs.Loading.{OnClass, Standing}
use Rattle.std.specs.Prelude.{Result, Ok}
use Rattle.refusal.specs.declared.Refusal.{Refusal}
use Rattle.table_rows.specs.declared.Loaded.{Loaded}
use Rattle.table_rows.specs.declared.Loaded.TheVariants.{Class}
use Rattle.best_class.specs.Flat.{FlatTable}
use Rattle.best_root.specs.Single.{FlatClass}

-- The functions' names in an array of n bytes, an entry for each.
module _
    (n : ℕ) (fs : List Function) (short : Every (λ (f : Function). length f.name ≤ 31) fs) (d : Function) (k : ℕ)
    (h : k < length fs) where
  abbrev labelled : List ℕ
  labelled = pad n (blocks (λ (f : Function). entry f.name) fs)

  abbrev name : List ℕ
  name = (get_or fs k d).name

  label-drop : (rest : List ℕ) × (drop (entries_length k) labelled ≡ entry name ++ rest)
  unfolding pad_with
  label-drop =
      let b : List ℕ = blocks (λ (f : Function). entry f.name) fs in
      let z : List ℕ = replicate (n - length b) 0 in
      let w = every_map (λ (f : Function) (l : length f.name ≤ 31). entry_length f.name l) short in (
        blocks (λ (f : Function). entry f.name) (drop (suc k) fs) ++ z,
        blocks-drop (λ (f : Function). entry f.name) entry_width w k d z h,
      )

  pub label-length : length_at labelled k ≡ length name
  label-length = length_at-of-entry labelled name label-drop.0 k label-drop.1

  pub label-name : name_at labelled k ≡ name
  label-name = name_at-of-entry labelled name label-drop.0 k label-drop.1

module _
    (t : Table) (known : Known t) (root : ℕ) (r : Result Loaded Refusal) (values : List ℤ)
    (labels arities functions cells order flat heads starts children : List ℕ)
    (h : Standing t root r values labels arities functions cells order flat heads starts children) where
  short-names : Every (λ (f : Function). length f.name ≤ 31) t.functions
  short-names =
      every-of-get (λ (f : Function). length f.name ≤ 31) t.functions no_function
      (λ f l. valid-short (function_of t f).name (known.name f l))

  pub functions-length : 1024 ≡ length functions
  functions-length =
      rw h.row_functions_are
      (sym (pad_with-length 0 1024 (map (λ (x : Row). x.function) t.rows)
      (omega (arith, length-map t.rows (λ (x : Row). x.function), known.few_rows))))

  pub labels_length : table_length ≡ length labels
  labels_length =
      let w = every_map (λ (f : Function) (l : length f.name ≤ 31). entry_length f.name l) short-names in
      let b = blocks-length (λ (f : Function). entry f.name) entry_width w in
      rw h.names_are
      (sym (pad_with-length 0 table_length (blocks (λ (f : Function). entry f.name) t.functions)
      (omega (arith, b, known.few_functions))))

  pub values_length : 512 ≡ length values
  values_length =
      rw h.literals_held.literals_are
      (sym (pad_with-length (pos 0) 512 t.literals (omega (arith, known.few_literals))))

  pub value-is : (i : ℕ) → i < length t.literals → get_or values i (pos 0) ≡ literal_of t i
  value-is i l = rw h.literals_held.literals_are (pad_with-get (pos 0) 512 t.literals i (pos 0) l)

  pub function-is : (i : ℕ) → get_or functions i 0 ≡ (table_row_of t i).function
  function-is i =
      rw h.row_functions_are (pad-map-get (λ (x : Row). x.function) no_table_row refl 1024 t.rows i)

  name-is : (f : ℕ) → f < length t.functions → name_at labels f ≡ (function_of t f).name
  name-is f l = rw h.names_are (label-name table_length t.functions short-names no_function f l)

  pub length-is : (f : ℕ) → f < length t.functions → length_at labels f ≡ length (function_of t f).name
  length-is f l = rw h.names_are (label-length table_length t.functions short-names no_function f l)

  -- A row's function, and its name among the labels.
  row-function : (i : ℕ) → i < length t.rows → get_or functions i 0 < length t.functions
  row-function i l = omega (arith, known.function i l, function-is i)

  row-name : (i : ℕ) → i < length t.rows → name_at labels (get_or functions i 0) ≡ name_of t i
  row-name i l =
      name-is (get_or functions i 0) (row-function i l) ∙ ap (λ (f : ℕ). (function_of t f).name) (function-is i)

  -- The lists of a class.
  module _ (c n m w : ℕ) (e : r ≡ Ok (Class c (record { rows = n; children = m; classes = w }))) (below : root < length t.sorts) where
    pub laid : Flattened t (root ∷ []) n m w order flat heads starts children
    laid =
        subst (λ (x : Result Loaded Refusal). OnClass x (λ n m w. Flattened t (root ∷ []) n m w order flat heads starts children)) e
        h.reached

    pub flat-table :
        FlatTable t root (take n flat) (take n heads) (take (n + 1) starts) (take m children) (take n order) functions
        labels values
    flat-table = record {
      known = known;
      root_below = below;
      rows_are = laid.rows_are;
      flat = laid.flat_ok;
      order_is = laid.order_is;
      arity = λ i l. laid.arity i (omega (arith, length-take-le n order laid.order_room));
      functions_long = omega (arith, known.few_rows, functions-length);
      functions_few = omega (arith, functions-length);
      function_few = λ i l. omega (arith, row-function i l, known.few_functions);
      label = row-name;
      label_place = λ i l. omega (arith, row-function i l, known.few_functions, labels_length);
      label_short = λ i l.
          omega (
            arith,
            length-is (get_or functions i 0) (row-function i l),
            valid-short (function_of t (get_or functions i 0)).name (known.name (get_or functions i 0) (row-function i l)),
          );
      values_length = omega (arith, known.few_literals, values_length);
      value = value-is;
    }

    pub flat-class :
        c < class_count t → FlatClass t root c n m w order flat heads starts children functions labels values
    flat-class l = record {
      flattened = laid;
      is = flat-table;
      class = subst (λ (x : ℕ). c < x) (sym laid.classes_are) l;
    }
