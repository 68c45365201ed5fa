-- Rows that are spelt are read back. Assumes nothing.
use Prim.Native.Nat.{ℕ, zero, suc, ◌+◌, ◌≤◌, ◌<◌}
use mathlib.Core.Bool.{Bool, true, false}
use mathlib.Core.List.{List, [], ◌∷◌}
use mathlib.Core.Path.{◌≡◌, ◌∙◌}
use native.Mathlib.Omega.{arith}
use lib.Dec.{eqb}
use lib.ListN.{length, get_or, length-append}
use lib.Seq.{get_or-append_seam}
use borrow.Author.Tests.{lt-ltb}
use Rattle.bits.specs.Got.{got, then, must, pick}
use Rattle.file_rules.specs.Table.{Sort, Function, Row}
use Rattle.file_rules.specs.Every.{Every}
use Rattle.file_rules.specs.Arrays.{blocks}
use Rattle.file_rules.specs.Sorts.{classes_of}
use Rattle.file_rules.specs.Rows.{sort_no, function_no, columns, range, cell_at, cells_at, row_at, rows_at}
use Rattle.file_rules.specs.Accepted.{CellsOk, RowOk}
use Rattle.file_rules.specs.Code.{code, code_row}
use Rattle.file_rules.proofs.Coding.SpellLaws.{Spells}
use Rattle.file_rules.proofs.CellLaws.{cells-many}
use Rattle.file_rules.proofs.Encoding.BackLaws.{spells-left, spells-right, field_back, every-mid, many-back}

-- A sort has no more classes than all together.
classes-le : (sorts : List Sort) (k : ℕ) → (sort_no sorts k).classes ≤ classes_of sorts
unfolding classes_of
classes-le [] k = omega arith
classes-le (x ∷ xs) zero = omega arith
classes-le (x ∷ xs) (suc k) = omega (arith, classes-le xs k)

range-by : (t : Bool) (a b : ℕ) → a ≤ 512 → b ≤ 512 → pick t a b ≤ 512
unfolding pick
range-by true a b h k = h
range-by false a b h k = k

-- A cell's bound fits its nine bits.
range-le : (sorts : List Sort) (l k : ℕ) → classes_of sorts ≤ 512 → l ≤ 511 → range sorts l k ≤ 512
unfolding range
range-le sorts l k h m =
    let c : (sort_no sorts k).classes ≤ 512 = omega (arith, classes-le sorts k) in
    range-by (eqb (sort_no sorts k).kind 1) (sort_no sorts k).classes l c (omega arith)

cell-back : {s : List ℕ} {at q : ℕ} (bound v : ℕ) → bound ≤ 512 → v < bound → Spells s at q (code 9 v)
    → cell_at s bound at ≡ got v q
unfolding cell_at then must
cell-back bound v h l p = rw (field_back 9 v p (omega arith), lt-ltb v bound l)

module _ (sorts : List Sort) (l : ℕ) (few : classes_of sorts ≤ 512) (short : l ≤ 511) where
  cells-back : {s : List ℕ} {at q : ℕ} (ks xs : List ℕ) → CellsOk sorts l ks xs → Spells s at q (blocks (code 9) xs)
      → cells_at s sorts l ks at ≡ got xs q
  cells-back {s} {at} ks xs o p =
      let bound : ℕ → ℕ = λ j. range sorts l (get_or ks j 0) in
      let m = many-back (code 9) (λ xs p. cell_at s (bound (length xs)) p) xs
      (λ before v after a b e.
      let n : length xs ≡ length before + suc (length after) = rw e (length-append before (v ∷ after)) in
      let g : get_or xs (length before) 0 ≡ v = rw e (get_or-append_seam before v after 0) in
      let h : get_or xs (length before) 0 < bound (length before) =
      o.within (length before) (omega (arith, o.count)) in
      cell-back (bound (length before)) v (range-le sorts l _ few short) (rw g at h))
      p in
      cells-many s sorts l ks at ∙ rw (← o.count) m

  row_back : {s : List ℕ} {at q : ℕ} (fs : List Function) (r : Row) → length fs ≤ 127 → RowOk sorts l fs r
      → Spells s at q (code_row r) → row_at s sorts l fs at ≡ got r q
  unfolding row_at code_row then must
  row_back fs r h o p =
      let a = code 7 r.function in
      let b = code 1 r.subsumed in
      let p₁ = spells-right a _ p in
      rw (
        field_back 7 r.function (spells-left a _ p) (omega (arith, o.known)),
        lt-ltb r.function (length fs) o.known,
        field_back 1 r.subsumed (spells-left b _ p₁) o.bit,
        cells-back (columns (function_no fs r.function)) r.cells o.cells_ok (spells-right b _ p₁),
      )

  pub rows_back : {s : List ℕ} {at q : ℕ} (fs : List Function) (rows : List Row) → length fs ≤ 127
      → Every (RowOk sorts l fs) rows → Spells s at q (blocks code_row rows)
      → rows_at s sorts l fs (length rows) at ≡ got rows q
  unfolding rows_at
  rows_back fs rows h ok p =
      many-back code_row _ rows
      (λ before r after a b e. row_back fs r h (every-mid before r after (rw e at ok))) p
