-- A file whose bits are the code of a table within the limits holds the table. Assumes nothing.
use Prim.Native.Nat.{ℕ, suc, ◌+◌, ◌*◌, ◌^◌, ◌≤◌, ◌<◌}
use mathlib.Core.List.{List, [], ◌∷◌}
use mathlib.Core.Path.{◌≡◌, refl, sym, ap, ◌∙◌}
use native.Mathlib.Omega.{arith}
use lib.IntN.{ℤ}
use lib.ListN.{length, replicate}
use lib.Seq.{take-length}
use lib.Signed.{mag}
use borrow.Author.Tests.{le-leb, eq-eqb}
use Rattle.bits.specs.Bits.{bits_of}
use Rattle.bits.specs.Got.{got, then, must}
use Rattle.bits.proofs.BitsLaws.{bits_of-length}
use Rattle.file_rules.specs.Table.{Sort, Function, Row, Table}
use Rattle.file_rules.specs.Every.{Every}
use Rattle.file_rules.specs.Sorts.{kinds_of, classes_of}
use Rattle.file_rules.specs.File.{version_at, sorts_part, literals_part, functions_part, rows_part, pad_bits, end_at, table_at}
use Rattle.file_rules.specs.Accepted.{Accepted, SortOk, FunctionOk, RowOk, Differ}
use Rattle.file_rules.specs.Code.{code, code_many, code_sort, code_literal, code_function, code_row, code_table, code_file}
use Rattle.file_rules.proofs.Coding.SpellLaws.{Spells}
use Rattle.file_rules.proofs.Coding.FileSpell.{code-zero}
use lib.Pow.{pow_pos}
use Rattle.file_rules.proofs.Encoding.BackLaws.{spells-left, spells-right, field_back}
use Rattle.file_rules.proofs.Encoding.SortsBack.{sorts-back, literals-back}
use Rattle.file_rules.proofs.Encoding.FunctionsBack.{functions-back}
use Rattle.file_rules.proofs.Encoding.RowsBack.{rows_back}

version-back : {s : List ℕ} {at q : ℕ} → Spells s at q (code 4 1) → version_at s at ≡ got 1 q
unfolding version_at then must
version-back p = rw (field_back 4 1 p (omega arith))

sorts-part : {s : List ℕ} {at q : ℕ} (xs : List Sort) → length xs ≤ 31 → Every SortOk xs → classes_of xs ≤ 512
    → Spells s at q (code_many 5 code_sort xs) → sorts_part s at ≡ got xs q
unfolding sorts_part then
sorts-part xs few ok small p =
    let c = code 5 (length xs) in
    rw (field_back 5 (length xs) (spells-left c _ p) (omega arith)) (sorts-back xs ok small (spells-right c _ p))

literals-part : {s : List ℕ} {at q : ℕ} (xs : List ℤ) → length xs ≤ 511 → Every (λ z. mag z < 2 ^ 63) xs
    → Spells s at q (code_many 9 code_literal xs) → literals_part s at ≡ got xs q
unfolding literals_part then
literals-part xs few ok p =
    let c = code 9 (length xs) in
    rw (field_back 9 (length xs) (spells-left c _ p) (omega arith)) (literals-back xs ok (spells-right c _ p))

functions-part : {s : List ℕ} {at q : ℕ} (kinds : List ℕ) (fs : List Function) → length kinds ≤ 31 → length fs ≤ 127
    → Every (FunctionOk kinds) fs → Differ fs → Spells s at q (code_many 7 code_function fs)
    → functions_part s kinds at ≡ got fs q
unfolding functions_part then
functions-part kinds fs few short ok differ p =
    let c = code 7 (length fs) in
    rw (field_back 7 (length fs) (spells-left c _ p) (omega arith))
    (functions-back kinds fs few ok differ (spells-right c _ p))

rows-part : {s : List ℕ} {at q : ℕ} (sorts : List Sort) (l : ℕ) (fs : List Function) (rows : List Row)
    → classes_of sorts ≤ 512 → l ≤ 511 → length fs ≤ 127 → length rows ≤ 1024 → Every (RowOk sorts l fs) rows
    → Spells s at q (code_many 11 code_row rows) → rows_part s sorts l fs at ≡ got rows q
unfolding rows_part then must
rows-part sorts l fs rows few short known m ok p =
    let c = code 11 (length rows) in
    rw (field_back 11 (length rows) (spells-left c _ p) (omega arith), le-leb (length rows) 1024 m)
    (rows_back sorts l few short fs rows known ok (spells-right c _ p))

end_back : {s : List ℕ} {at q : ℕ} → q ≡ 8 * length s → Spells s at q (replicate (pad_bits at) 0) → end_at s at ≡ got q q
unfolding end_at then must
end_back {s} {at} {q} e p =
    let w = pad_bits at in
    let z : Spells s at q (code w 0) = rw (code-zero w) p in
    rw (field_back w 0 z (pow_pos w), eq-eqb q (8 * length s) e)

kinds-length : (xs : List Sort) → length (kinds_of xs) ≡ length xs
kinds-length [] = refl
kinds-length (x ∷ xs) = ap suc (kinds-length xs)

-- The whole file spells the table's code and then the zeros.
whole-spells : (s xs : List ℕ) → bits_of s ≡ xs → Spells s 0 (8 * length s) xs
whole-spells s xs e =
    let n : length xs ≡ 8 * length s = sym (ap length e) ∙ bits_of-length s in
    record {
      size = omega arith;
      here = rw (bits_of-length s) (omega arith);
      are = rw e (take-length xs);
    }

-- A file whose bits are the code of a table within the limits holds the table.
pub code_is_file : (s : List ℕ) (t : Table) → Accepted t → bits_of s ≡ code_file t → table_at s ≡ got t (8 * length s)
unfolding table_at code_file code_table then
code_is_file s t o e =
    let c = code_table t in
    let p = whole-spells s (code_file t) e in
    let a = code 4 1 in
    let b = code_many 5 code_sort t.sorts in
    let d = code_many 9 code_literal t.literals in
    let f = code_many 7 code_function t.functions in
    let p₀ = spells-left c _ p in
    let p₁ = spells-right a _ p₀ in
    let p₂ = spells-right b _ p₁ in
    let p₃ = spells-right d _ p₂ in
    let n : length (kinds_of t.sorts) ≤ 31 = rw kinds-length o.sorts_few in
    let z : length c + 0 ≡ length c = omega arith in
    let last = rw z at (spells-right c _ p) in
    rw (
      version-back (spells-left a _ p₀),
      sorts-part t.sorts o.sorts_few o.sorts_ok o.classes_few (spells-left b _ p₁),
      literals-part t.literals o.literals_few o.literals_ok (spells-left d _ p₂),
      functions-part (kinds_of t.sorts) t.functions n o.functions_few o.functions_ok o.names_differ
          (spells-left f _ p₃),
      rows-part t.sorts (length t.literals) t.functions t.rows o.classes_few o.literals_few
          o.functions_few o.rows_few o.rows_ok (spells-right f _ p₃),
      z,
      end_back refl last,
    )
