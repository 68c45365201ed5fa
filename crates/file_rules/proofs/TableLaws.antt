-- What holds of a table that was read: it is as `Accepted` says, and its bits are at most 171,080. Assumes nothing.
use Prim.Native.Nat.{ℕ, ◌+◌, ◌*◌, ◌^◌, ◌≤◌, ◌<◌}
use mathlib.Core.List.{List}
use mathlib.Core.Path.{◌≡◌, refl}
use native.Mathlib.Omega.{arith}
use lib.IntN.{ℤ}
use lib.ListN.{length}
use lib.Signed.{mag}
use borrow.Author.Tests.{leb-true, eqb-true}
use Rattle.bits.specs.Field.{field}
use Rattle.bits.proofs.FieldLaws.{field-read}
use Rattle.bits.proofs.GotLaws.{All, all-got, all-at, all_of, all_then, all-must}
use Rattle.file_rules.specs.Table.{Sort, Function, Row, Table}
use Rattle.file_rules.specs.Every.{Every}
use Rattle.file_rules.specs.Sorts.{kinds_of, classes_of}
use Rattle.file_rules.specs.File.{
  version_at,
  sorts_part,
  literals_part,
  functions_part,
  rows_part,
  pad_bits,
  end_at,
  table_at,
}
use Rattle.file_rules.specs.Accepted.{Accepted, SortOk, FunctionOk, RowOk, Differ}
use Rattle.file_rules.proofs.BlockLaws.{every_map}
use Rattle.file_rules.proofs.SortLaws.{sorts-kept, sorts-length}
use Rattle.file_rules.proofs.LiteralLaws.{literals-kept, literals-length}
use Rattle.file_rules.proofs.DifferLaws.{functions-kept, functions-length}
use Rattle.file_rules.proofs.RowLaws.{rows-kept, rows-length}

-- The end of a file: the last position is that of the last bit, less than a byte away.
pub record EndKept (s : List ℕ) (at : ℕ) (p q : ℕ) : Type 0 where
  pub same : p ≡ q
  pub last : q ≡ 8 * length s
  pub near : q ≡ at + pad_bits at

pub end_kept : (s : List ℕ) (at : ℕ) → All (EndKept s at) (end_at s at)
unfolding end_at
end_kept s at =
    all_then (field s at (pad_bits at)) _ (λ v p e.
    let k = field-read s at (pad_bits at) e in
    all-must _ _ _ (λ _. all-must _ _ _ (λ b.
    all-got (record { same = refl; last = eqb-true _ _ b; near = k.end }))))

-- The parts.
pub version-end : (s : List ℕ) (at : ℕ) → All (λ v q. q ≡ at + 4) (version_at s at)
unfolding version_at
version-end s at = all_then (field s at 4) _ (λ v p e. all-must _ _ _ (λ _. all-got (field-read s at 4 e).end))

pub record SortsIn (at : ℕ) (sorts : List Sort) (q : ℕ) : Type 0 where
  pub count : length sorts ≤ 31
  pub ok : Every SortOk sorts
  pub few : classes_of sorts ≤ 512
  pub near : q ≤ at + 346

pub sorts-in : (s : List ℕ) (at : ℕ) → All (SortsIn at) (sorts_part s at)
unfolding sorts_part
sorts-in s at =
    all_then (field s at 5) _ (λ n p e.
    let f = field-read s at 5 e in
    all_of _ (λ xs q d.
    let k = all-at (rw d at (sorts-kept s n p)) in
    let m : length xs ≡ n = sorts-length s n p d in
    let small : n < 32 = f.small in
    record { count = omega arith; ok = k.ok; few = k.few; near = omega (arith, f.end, k.near) }))

pub record LiteralsIn (at : ℕ) (literals : List ℤ) (q : ℕ) : Type 0 where
  pub count : length literals ≤ 511
  pub ok : Every (λ z. mag z < 2 ^ 63) literals
  pub near : q ≤ at + 32713

pub literals-in : (s : List ℕ) (at : ℕ) → All (LiteralsIn at) (literals_part s at)
unfolding literals_part
literals-in s at =
    all_then (field s at 9) _ (λ n p e.
    let f = field-read s at 9 e in
    all_of _ (λ xs q d.
    let k = all-at (rw d at (literals-kept s n p)) in
    let m : length xs ≡ n = literals-length s n p d in
    let small : n < 512 = f.small in
    record { count = omega arith; ok = k.ok; near = omega (arith, f.end, k.near) }))

pub record FunctionsIn (kinds : List ℕ) (at : ℕ) (fs : List Function) (q : ℕ) : Type 0 where
  pub count : length fs ≤ 127
  pub ok : Every (FunctionOk kinds) fs
  pub differ : Differ fs
  pub near : q ≤ at + 46870

pub functions-in : (s kinds : List ℕ) (at : ℕ) → All (FunctionsIn kinds at) (functions_part s kinds at)
unfolding functions_part
functions-in s kinds at =
    all_then (field s at 7) _ (λ n p e.
    let f = field-read s at 7 e in
    all_of _ (λ fs q d.
    let k = all-at (rw d at (functions-kept s kinds n p)) in
    let m : length fs ≡ n = functions-length s kinds n p d in
    let small : n < 128 = f.small in
    record { count = omega arith; ok = k.ok; differ = k.differ; near = omega (arith, f.end, k.near) }))

-- At most 8 arguments.
pub tight-of : {kinds : List ℕ} {fs : List Function} → Every (FunctionOk kinds) fs
    → Every (λ (f : Function). length f.arguments ≤ 8) fs
tight-of {kinds} h = every_map (λ (f : Function) (o : FunctionOk kinds f). o.few) h

pub record RowsIn (sorts : List Sort) (l : ℕ) (fs : List Function) (at : ℕ) (rows : List Row) (q : ℕ) : Type 0 where
  pub count : length rows ≤ 1024
  pub ok : Every (RowOk sorts l fs) rows
  pub near : q ≤ at + 91147

pub rows_in : (s : List ℕ) (sorts : List Sort) (l : ℕ) (fs : List Function) (at : ℕ)
    → Every (λ (f : Function). length f.arguments ≤ 8) fs → All (RowsIn sorts l fs at) (rows_part s sorts l fs at)
unfolding rows_part
rows_in s sorts l fs at tight =
    all_then (field s at 11) _ (λ n p e.
    let f = field-read s at 11 e in
    all-must _ _ _ (λ b.
    let small : n ≤ 1024 = leb-true _ _ b in
    all_of _ (λ rows q d.
    let k = all-at (rw d at (rows-kept s sorts l fs tight n p)) in
    let m : length rows ≡ n = rows-length s sorts l fs n p d in
    record { count = omega arith; ok = k.ok; near = omega (arith, f.end, k.near) })))

pub record TableKept (s : List ℕ) (t : Table) (q : ℕ) : Type 0 where
  pub ok : Accepted t
  pub last : q ≡ 8 * length s
  pub near : q ≤ 171080

pub table_kept : (s : List ℕ) → All (TableKept s) (table_at s)
unfolding table_at
table_kept s =
    all_then (version_at s 0) _ (λ version a e₁.
    let k₁ : a ≡ 0 + 4 = all-at (rw e₁ at (version-end s 0)) in
    all_then (sorts_part s a) _ (λ sorts b e₂.
    let k₂ = all-at (rw e₂ at (sorts-in s a)) in
    all_then (literals_part s b) _ (λ literals c e₃.
    let k₃ = all-at (rw e₃ at (literals-in s b)) in
    all_then (functions_part s (kinds_of sorts) c) _ (λ functions d e₄.
    let k₄ = all-at (rw e₄ at (functions-in s (kinds_of sorts) c)) in
    all_then (rows_part s sorts (length literals) functions d) _ (λ rows e e₅.
    let k₅ = all-at (rw e₅ at (rows_in s sorts (length literals) functions d (tight-of k₄.ok))) in
    all_then (end_at s e) _ (λ end f e₆.
    let k₆ = all-at (rw e₆ at (end_kept s e)) in
    let ends : e ≤ 171080 = omega (arith, k₂.near, k₃.near, k₄.near, k₅.near) in
    all-got
    (record {
      ok =
          record {
            sorts_few = k₂.count;
            sorts_ok = k₂.ok;
            classes_few = k₂.few;
            literals_few = k₃.count;
            literals_ok = k₃.ok;
            functions_few = k₄.count;
            functions_ok = k₄.ok;
            names_differ = k₄.differ;
            rows_few = k₅.count;
            rows_ok = k₅.ok;
          };
      last = k₆.last;
      near = omega (arith, k₆.near);
    })))))))
