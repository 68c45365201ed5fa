-- The longest table is within the limits, and its file has 21,385 bytes. The counts stay variables until the end, so
-- that nothing is computed bit by bit. Assumes nothing.
use Prim.Native.Nat.{ℕ, zero, suc, ◌+◌, ◌*◌, ◌/◌, ◌%◌, ◌≤◌, ◌<◌}
use mathlib.Core.Bool.{true}
use mathlib.Core.List.{List, ◌++◌}
use mathlib.Core.Path.{◌≡◌, refl, sym, ap, ◌∙◌}
use native.Mathlib.Omega.{arith}
use lib.IntN.{pos}
use lib.ListN.{length, get_or, replicate, length-append, length-replicate, get_or-replicate}
use borrow.Author.Tests.{le-leb, ne_eqb}
use Rattle.name.specs.Name.{allowed, all_allowed, valid}
use Rattle.bits.specs.Got.{pick}
use Rattle.file_rules.specs.Table.{Function}
use Rattle.file_rules.specs.Every.{Every, every-nil, every-cons}
use Rattle.file_rules.specs.Arrays.{blocks}
use Rattle.file_rules.specs.Sorts.{kinds_of, classes_of}
use Rattle.file_rules.specs.Rows.{function_no, columns, range}
use Rattle.file_rules.specs.Accepted.{SortOk, FunctionOk, CellsOk, RowOk, Differ, Accepted}
use Rattle.file_rules.proofs.BlockLaws.{blocks-length}
use Rattle.file_rules.specs.Code.{
  code,
  code_many,
  code_sort,
  code_literal,
  unsigned,
  code_cost,
  code_function,
  code_row,
  code_table,
}
use Rattle.file_rules.proofs.Coding.SpellLaws.{code-length}
use Rattle.file_rules.specs.Bytes.{file_of}
use Rattle.file_rules.specs.Longest.{long_sorts, long_name, long_function, long_functions, long_row, large, longest}
use Rattle.file_rules.proofs.Encoding.BackLaws.{codes-long}
use Rattle.file_rules.proofs.Encoding.BytesLaws.{file_of-length}

every-replicate : {A : Type 0} {P : A → Type 0} (n : ℕ) (x : A) → P x → Every P (replicate n x)
every-replicate zero x p = every-nil
every-replicate (suc n) x p = every-cons p (every-replicate n x p)

-- Letters are allowed.
letter-allowed : (b : ℕ) → 97 ≤ b → b ≤ 122 → allowed b ≡ true
unfolding allowed
letter-allowed b l h =
    rw (
      le-leb 33 b (omega arith),
      le-leb b 126 (omega arith),
      ne_eqb b 40 (λ e. omega arith),
      ne_eqb b 41 (λ e. omega arith),
      ne_eqb b 34 (λ e. omega arith),
      ne_eqb b 59 (λ e. omega arith),
    )

letters-allowed : (n : ℕ) → all_allowed (replicate n 97) ≡ true
unfolding all_allowed
letters-allowed zero = refl
letters-allowed (suc n) = rw (letter-allowed 97 (omega arith) (omega arith), letters-allowed n)

name-valid : (i : ℕ) → i < 127 → valid (long_name i) ≡ true
unfolding valid all_allowed
name-valid i h =
    rw (
      letter-allowed (97 + i % 16) (omega arith) (omega arith),
      letter-allowed (97 + i / 16) (omega arith) (omega arith),
      letters-allowed 29,
    )

-- The two letters tell the number.
name-tells : (i j : ℕ) → long_name i ≡ long_name j → i ≡ j
name-tells i j e =
    let a : 97 + i % 16 ≡ 97 + j % 16 = ap (λ (l : List ℕ). get_or l 0 0) e in
    let b : 97 + i / 16 ≡ 97 + j / 16 = ap (λ (l : List ℕ). get_or l 1 0) e in
    omega arith

functions-length : (n i : ℕ) → length (long_functions n i) ≡ n
unfolding long_functions
functions-length zero i = refl
functions-length (suc n) i = ap suc (functions-length n (i + 1))

functions-get : (n i k : ℕ) → k < n → function_no (long_functions n i) k ≡ long_function (i + k)
unfolding long_functions
functions-get zero i k h = let z : ⊥ = omega arith in absurd z
functions-get (suc n) i zero h =
    let e : i ≡ i + 0 = omega arith in
    ap long_function e
functions-get (suc n) i (suc k) h =
    let e : i + 1 + k ≡ i + suc k = omega arith in
    functions-get n (i + 1) k (omega arith) ∙ ap long_function e

functions-differ : (n : ℕ) → Differ (long_functions n 0)
functions-differ n i j less below e =
    let m : length (long_functions n 0) ≡ n = functions-length n 0 in
    let l : j < n = omega arith in
    let p : function_no (long_functions n 0) i ≡ long_function (0 + i) = functions-get n 0 i (omega arith) in
    let q : function_no (long_functions n 0) j ≡ long_function (0 + j) = functions-get n 0 j l in
    let a : long_name (0 + i) ≡ (function_no (long_functions n 0) i).name = sym (ap (λ (f : Function). f.name) p) in
    let b : (function_no (long_functions n 0) j).name ≡ long_name (0 + j) = ap (λ (f : Function). f.name) q in
    let d : 0 + i ≡ 0 + j = name-tells (0 + i) (0 + j) (a ∙ e ∙ b) in
    omega arith

function-ok : (i : ℕ) → i < 127 → FunctionOk (kinds_of long_sorts) (long_function i)
function-ok i h =
    record {
      named = name-valid i h;
      flag = omega arith;
      none = λ e. refl;
      small = omega arith;
      unextractable_bit = omega arith;
      hidden_bit = omega arith;
      known = omega arith;
      eq = refl;
      few = omega arith;
      sorted = every-replicate 8 0 (omega arith);
    }

functions_ok : (n i : ℕ) → i + n ≤ 127 → Every (FunctionOk (kinds_of long_sorts)) (long_functions n i)
unfolding long_functions
functions_ok zero i h = every-nil
functions_ok (suc n) i h = every-cons (function-ok i (omega arith)) (functions_ok n (i + 1) (omega arith))

range-first : (l : ℕ) → range long_sorts l 0 ≡ 512
unfolding range pick
range-first l = refl

-- Every cell is class 0 of the first sort.
cells_ok : (l : ℕ) → CellsOk long_sorts l (columns (long_function 0)) (replicate 9 0)
cells_ok l =
    record {
      count = refl;
      within = λ j h.
          let n : j < 9 = h in
          let a : ◌≡◌ {A = ℕ} (get_or (replicate 9 0) j 0) 0 = get_or-replicate 9 j 0 0 n in
          rw (a, range-first l) (omega arith);
    }

row_ok : (l n : ℕ) → 0 < n → RowOk long_sorts l (long_functions n 0) long_row
row_ok l n h =
    record {
      known = rw functions-length h;
      bit = omega arith;
      cells_ok = rw (functions-get n 0 0 h) (cells_ok l);
    }

sorts_ok : Every SortOk long_sorts
sorts_ok = every-cons (of 512) (every-replicate 30 _ (of 0))
  where
    of : (n : ℕ) → SortOk (record { kind = 1; classes = n })
    of n = record { bit = omega arith; base = λ e. let z : ⊥ = omega arith in absurd z }

classes-all : classes_of long_sorts ≡ 512
unfolding classes_of
classes-all = refl

pub large-accepted : (l n r : ℕ) → l ≤ 511 → 0 < n → n ≤ 127 → r ≤ 1024 → Accepted (large l n r)
unfolding large
large-accepted l n r a b c d =
    record {
      sorts_few = omega arith;
      sorts_ok = sorts_ok;
      classes_few = omega (arith, classes-all);
      literals_few = rw length-replicate a;
      literals_ok = every-replicate l (pos 0) (omega arith);
      functions_few = rw functions-length c;
      functions_ok = functions_ok n 0 (omega arith);
      names_differ = functions-differ n;
      rows_few = rw length-replicate d;
      rows_ok = every-replicate r long_row (rw length-replicate (row_ok l n b));
    }

-- How many bits a count and as many things take.
many-long : {A : Type 0} (w m : ℕ) (c : A → List ℕ) (xs : List A) → Every (λ (x : A). length (c x) ≡ m) xs
    → length (code_many w c xs) ≡ w + length xs * m
many-long w m c xs h =
    length-append (code w (length xs)) (blocks c xs) ∙ rw (code-length, blocks-length c m h)

sort-long : (n : ℕ) → length (code_sort (record { kind = 1; classes = n })) ≡ 11
unfolding code_sort pick
sort-long n = length-append (code 1 1) (code 10 n) ∙ rw (code-length 1 1, code-length 10 n)

sorts-long : length (code_many 5 code_sort long_sorts) ≡ 346
sorts-long =
    many-long 5 11 code_sort long_sorts (every-cons (sort-long 512) (every-replicate 30 _ (sort-long 0)))

literals-long : (l : ℕ) → length (code_many 9 code_literal (replicate l (pos 0))) ≡ 9 + l * 64
unfolding code_literal
literals-long l =
    many-long 9 64 code_literal (replicate l (pos 0)) (every-replicate l (pos 0) (code-length 64 (unsigned (pos 0))))
    ∙ rw length-replicate

cost-long : (has c : ℕ) → has ≡ 1 → length (code_cost has c) ≡ 65
unfolding pick
cost-long has c e = rw e (length-append (code 1 1) (code 64 c) ∙ rw (code-length 1 1, code-length 64 c))

flags_long : (u h : ℕ) → length (code 1 u ++ code 1 h) ≡ 2
flags_long u h = length-append (code 1 u) (code 1 h) ∙ rw (code-length 1 u, code-length 1 h)

function-long : (f : Function) → length f.name ≡ 31 → f.has_cost ≡ 1 → length f.arguments ≡ 8
    → length (code_function f) ≡ 369
unfolding code_function
function-long f n h m =
    let a : length (code_many 5 (code 8) f.name) ≡ 253 =
    many-long 5 8 (code 8) f.name (codes-long 8 f.name) ∙ rw n in
    let b : length (code_cost f.has_cost f.cost) ≡ 65 = cost-long f.has_cost f.cost h in
    let c : length (code 1 f.unextractable ++ code 1 f.hidden) ≡ 2 = flags_long f.unextractable f.hidden in
    let d : length (code 5 f.output) ≡ 5 = code-length 5 f.output in
    let e : length (code_many 4 (code 5) f.arguments) ≡ 44 =
    many-long 4 5 (code 5) f.arguments (codes-long 5 f.arguments) ∙ rw m in
    rw (length-append, a, length-append, b, length-append, c, length-append, d, e)

functions_long : (n i : ℕ) → Every (λ (f : Function). length (code_function f) ≡ 369) (long_functions n i)
unfolding long_functions
functions_long zero i = every-nil
functions_long (suc n) i = every-cons (function-long (long_function i) refl refl refl) (functions_long n (i + 1))

row-long : length (code_row long_row) ≡ 89
unfolding code_row
row-long =
    let e : length (blocks (code 9) (replicate 9 0)) ≡ 81 = blocks-length (code 9) 9 (codes-long 9 (replicate 9 0)) in
    rw (length-append, length-append, e, code-length 7 0, code-length 1 0)

large-long : (l n r : ℕ) → length (code_table (large l n r)) ≡ 377 + l * 64 + n * 369 + r * 89
unfolding large code_table
large-long l n r =
    let d : length (code_many 9 code_literal (replicate l (pos 0))) ≡ 9 + l * 64 = literals-long l in
    let f : length (code_many 7 code_function (long_functions n 0)) ≡ 7 + n * 369 =
    many-long 7 369 code_function (long_functions n 0) (functions_long n 0) ∙ rw functions-length in
    let g : length (code_many 11 code_row (replicate r long_row)) ≡ 11 + r * 89 =
    many-long 11 89 code_row (replicate r long_row) (every-replicate r long_row row-long) ∙ rw length-replicate in
    rw (length-append, code-length, length-append, sorts-long, length-append, d, length-append, f, g) (omega arith)

pub longest-accepted : Accepted longest
unfolding longest
longest-accepted = large-accepted 511 127 1024 (omega arith) (omega arith) (omega arith) (omega arith)

longest-bits : length (code_table longest) ≡ 171080
unfolding longest
longest-bits = large-long 511 127 1024

pub longest-bytes : length (file_of longest) ≡ 21385
longest-bytes = file_of-length longest ∙ rw longest-bits
