-- What the extractor goes by in an accepted table, from what its reader says of it. Assumes nothing.
use Prim.Native.Nat.{ℕ, zero, suc, ◌+◌, ◌≤◌, ◌<◌}
use mathlib.Core.Path.{◌≡◌, refl, ap, sym, ◌∙◌}
use mathlib.Core.List.{List, [], ◌∷◌}
use native.Mathlib.Omega.{arith}
use native.Mathlib.Decide.{ℕ_discrete}
use borrow.Author.Tests.{eq-eqb, ne_eqb}
use lib.ListN.{length, get_or, length-map, length-append, get_or-map, get_or-append}
use lib.Seq.{get_or-append-add}
use Rattle.bits.specs.Got.{pick}
use Rattle.file_rules.specs.Table.{Sort, Table}
use Rattle.file_rules.specs.Sorts.{kinds_of}
use Rattle.file_rules.specs.Rows.{columns, range}
use Rattle.file_rules.specs.Accepted.{Accepted, FunctionOk, RowOk}
use Rattle.file_rules.proofs.BlockLaws.{every_get}
use Rattle.table_rules.specs.Rules.Classes.{no_sort, sort_of, range_of}
use Rattle.table_rules.specs.Rules.Rows.{no_function, no_table_row, function_of, table_row_of}
use Rattle.table_rules.specs.Rules.Facts.{arity_of, Known}
use Rattle.table_rules.proofs.Rules.CoverLaws.{range_of-eq}

pub kinds-get : (sorts : List Sort) (s : ℕ) → get_or (kinds_of sorts) s 0 ≡ (get_or sorts s no_sort).kind
kinds-get sorts s = get_or-map (λ (x : Sort). x.kind) sorts s no_sort

pub one-when-not-zero : (k : ℕ) → k ≤ 1 → (k ≡ 0 → ⊥) → k ≡ 1
one-when-not-zero zero l n = absurd (n refl)
one-when-not-zero (suc k) l n = omega arith

module _ (t : Table) (ok : Accepted t) where
  kinds-length : length (kinds_of t.sorts) ≡ length t.sorts
  kinds-length = length-map t.sorts (λ (x : Sort). x.kind)

  kind-most : (s : ℕ) → s < length t.sorts → (sort_of t s).kind ≤ 1
  kind-most s h = omega (arith, (every_get ok.sorts_ok s no_sort h).bit)

  function-ok : (f : ℕ) → f < length t.functions → FunctionOk (kinds_of t.sorts) (function_of t f)
  function-ok f h = every_get ok.functions_ok f no_function h

  row_ok : (r : ℕ) → r < length t.rows → RowOk t.sorts (length t.literals) t.functions (table_row_of t r)
  row_ok r h = every_get ok.rows_ok r no_table_row h

  output-kind : (f : ℕ) → f < length t.functions → (sort_of t (function_of t f).output).kind ≡ 1
  output-kind f h = sym (kinds-get t.sorts (function_of t f).output) ∙ (function-ok f h).eq

  range-eq : (s : ℕ) → (sort_of t s).kind ≡ 1 → range t.sorts (length t.literals) s ≡ (sort_of t s).classes
  unfolding range pick
  range-eq s e = rw (eq-eqb (sort_of t s).kind 1 e)

  range-base : (s : ℕ) → (sort_of t s).kind ≡ 0 → range t.sorts (length t.literals) s ≡ length t.literals
  unfolding range pick
  range-base s e = rw (ne_eqb (sort_of t s).kind 1 (λ o. omega arith))

  range_of-base : (s : ℕ) → (sort_of t s).kind ≡ 0 → range_of t s ≡ length t.literals
  unfolding range_of
  range_of-base s e = rw (eq-eqb (sort_of t s).kind 0 e, range_of)

  -- The range of a cell of a sort, as the reader and the rules have it.
  range-is : (s : ℕ) → s < length t.sorts → range t.sorts (length t.literals) s ≡ range_of t s
  range-is s h = go (ℕ_discrete (sort_of t s).kind 0)
    where
      go : Dec ((sort_of t s).kind ≡ 0) → range t.sorts (length t.literals) s ≡ range_of t s
      go (yes e) = range-base s e ∙ sym (range_of-base s e)
      go (no e) = range-eq s (one-when-not-zero (sort_of t s).kind (kind-most s h) e) ∙ sym (range_of-eq t s e)

  columns-length : (f : ℕ) → length (columns (function_of t f)) ≡ length (function_of t f).arguments + 1
  columns-length f = length-append (function_of t f).arguments ((function_of t f).output ∷ [])

  columns-last : (f : ℕ) → get_or (columns (function_of t f)) (length
      (function_of t f).arguments) 0 ≡ (function_of t f).output
  columns-last f =
      let a = (function_of t f).arguments in
      let z : length a ≡ length a + 0 = omega arith in
      ap (λ (k : ℕ). get_or (columns (function_of t f)) k 0) z ∙ get_or-append-add a ((function_of t f).output ∷ []) 0 0

  argument-below : (f j : ℕ) → f < length t.functions → j < length (function_of t f).arguments →
      get_or (function_of t f).arguments j 0 < length t.sorts
  argument-below f j h l = omega (arith, every_get (function-ok f h).sorted j 0 l, kinds-length)

  pub known-of-accepted : Known t
  known-of-accepted = record {
    few_sorts = ok.sorts_few;
    few_classes = ok.classes_few;
    few_literals = ok.literals_few;
    few_functions = ok.functions_few;
    few_rows = ok.rows_few;
    name = λ f h. (function-ok f h).named;
    cost = λ f h. (function-ok f h).small;
    output = λ f h. omega (arith, (function-ok f h).known, kinds-length);
    output_eq = output-kind;
    arity = λ f h. (function-ok f h).few;
    argument = argument-below;
    kind = kind-most;
    function = λ r h. (row_ok r h).known;
    cells = λ r h. (row_ok r h).cells_ok.count ∙ columns-length (table_row_of t r).function;
    output_cell = λ r h.
        let f = (table_row_of t r).function in
        let w = (row_ok r h).cells_ok.within (arity_of t r) (omega (arith, columns-length f)) in
        rw (columns-last f, range-eq (function_of t f).output (output-kind f (row_ok r h).known)) at w;
    argument_cell = λ r j h l.
        let f = (table_row_of t r).function in
        let a = (function_of t f).arguments in
        let w = (row_ok r h).cells_ok.within j (omega (arith, columns-length f)) in
        rw (
          get_or-append a ((function_of t f).output ∷ []) 0 j l,
          range-is (get_or a j 0) (argument-below f j (row_ok r h).known l),
        ) at w;
  }
