-- Each thing that was read spells its code. Assumes nothing.
use Prim.{Dec, yes, no}
use Prim.Native.Nat.{ℕ, zero, suc, ◌+◌, ◌-◌, ◌*◌, ◌^◌, ◌≤◌, ◌<◌}
use mathlib.Core.Bool.{false}
use mathlib.Core.List.{List, [], ◌++◌, append-nil}
use mathlib.Core.Path.{◌≡◌, sym, subst}
use native.Mathlib.Decide.{dec_lt}
use native.Mathlib.Omega.{arith}
use lib.Dec.{eqb}
use lib.ListN.{length, get_or}
use borrow.Author.Tests.{eqb-true, eqb-false}
use Rattle.bits.specs.Bits.{bits_of}
use Rattle.bits.specs.Got.{Got, got, pick, many}
use Rattle.bits.specs.Field.{field}
use Rattle.bits.proofs.BitsLaws.{bits_of-length}
use Rattle.bits.proofs.FieldLaws.{field-read, holds-true}
use Rattle.bits.proofs.GotLaws.{
  All,
  all-got,
  all-at,
  all_of,
  all_map,
  all_then,
  all-must,
  all-pick,
  many-all,
  many-length,
}
use Rattle.file_rules.specs.Table.{Sort, Function}
use Rattle.file_rules.specs.Sorts.{classes_of, sort_at, sorts_at}
use Rattle.file_rules.specs.Literals.{signed, literal_at, literals_at}
use Rattle.file_rules.specs.Functions.{bytes_at, name_at, new_name_at, cost_at, flags_at, output_at, argument_at, arguments_at, function_at, functions_at}
use Rattle.file_rules.specs.Rows.{cell_at, cells_at, row_at, rows_at, columns, function_no, range}
use Rattle.file_rules.proofs.CellLaws.{cells-many}
use Rattle.file_rules.specs.Arrays.{blocks}
use Rattle.file_rules.proofs.BlockLaws.{blocks-snoc}
use Rattle.file_rules.proofs.FunctionLaws.{bytes_at-length}
use Rattle.file_rules.proofs.SignedLaws.{signed-when-small, signed-when-large}
use Rattle.file_rules.specs.Code.{code, code_sort, unsigned, code_literal, code_function, code_row}
use Rattle.file_rules.proofs.Coding.SpellLaws.{Spells, spells-nil, spells-append, number-spells, field-spells}

-- Where many things are read, each spelling its code, all spell their codes.
many-spells : {A : Type 0} (s : List ℕ) (c : A → List ℕ) (f : List A → ℕ → Got A) (n at : ℕ) → at ≤ length (bits_of s)
    → ((xs : List A) (p : ℕ) → All (λ x q. Spells s p q (c x)) (f xs p))
    → All (λ xs q. Spells s at q (blocks c xs)) (many f n at [])
unfolding blocks
many-spells s c f n at h each =
    many-all f (λ xs q. Spells s at q (blocks c xs))
    (λ xs p k. all_map (λ x q d. rw (blocks-snoc c xs x) (spells-append k d)) (each xs p))
    n at [] (spells-nil h)

-- A field ends within the bits.
pub end-in : (s : List ℕ) (k w : ℕ) {v q : ℕ} → field s k w ≡ got v q → q ≤ length (bits_of s)
end-in s k w e =
    let f = field-read s k w e in
    rw bits_of-length (omega (arith, f.end, f.here))

one_of : (k : ℕ) → k < 2 → eqb k 0 ≡ false → k ≡ 1
one_of k h e =
    let n : k ≡ 0 → ⊥ = eqb-false k 0 e in
    omega arith

pub sort-spells : (s : List ℕ) (at t : ℕ) → All (λ x q. Spells s at q (code_sort x)) (sort_at s at t)
unfolding sort_at code_sort pick
sort-spells s at t =
    all_then (field s at 1) _ (λ kind p e.
    let a = field-spells s at 1 e in
    all-pick (eqb kind 0) _ _
    (λ z.
    let k : kind ≡ 0 = eqb-true _ _ z in
    all-got (rw append-nil (rw k at a)))
    (λ o.
    let k : kind ≡ 1 = one_of kind (field-read s at 1 e).small o in
    all_then (field s p 10) _ (λ n q d.
    let b = field-spells s p 10 d in
    all-must _ _ _ (λ _. all-must _ _ _ (λ _. all-got (spells-append (rw k at a) b))))))

pub sorts-spell : (s : List ℕ) (n at : ℕ) → at ≤ length (bits_of s)
    → All (λ xs q. Spells s at q (blocks code_sort xs)) (sorts_at s n at)
unfolding sorts_at
sorts-spell s n at h = many-spells s code_sort _ n at h (λ xs p. sort-spells s p (classes_of xs))

unsigned_by : (v : ℕ) → v < 2 ^ 64 → Dec (v < 2 ^ 63) → unsigned (signed v) ≡ v
unfolding unsigned
unsigned_by v h (yes l) = rw (signed-when-small v l)
unsigned_by v h (no n) =
    let l : 2 ^ 63 ≤ v = omega arith in
    let m : 2 ^ 64 - 1 - (2 ^ 64 - 1 - v) ≡ v = omega arith in
    rw (signed-when-large v l) m

-- Two's complement loses nothing.
pub unsigned_signed : (v : ℕ) → v < 2 ^ 64 → unsigned (signed v) ≡ v
unsigned_signed v h = unsigned_by v h (dec_lt v (2 ^ 63))

pub literal-spells : (s : List ℕ) (at : ℕ) → All (λ z q. Spells s at q (code_literal z)) (literal_at s at)
unfolding literal_at code_literal
literal-spells s at =
    all_then (field s at 64) _ (λ v p e.
    all-got (rw (unsigned_signed v (field-read s at 64 e).small) (field-spells s at 64 e)))

pub literals-spell : (s : List ℕ) (n at : ℕ) → at ≤ length (bits_of s)
    → All (λ xs q. Spells s at q (blocks code_literal xs)) (literals_at s n at)
unfolding literals_at
literals-spell s n at h = many-spells s code_literal _ n at h (λ xs p. literal-spells s p)

bytes-spell : (s : List ℕ) (k n : ℕ) → k + 8 * n ≤ 8 * length s
    → Spells s k (k + 8 * n) (blocks (code 8) (bytes_at s k n))
unfolding bytes_at blocks
bytes-spell s k zero h =
    let e : k + 8 * 0 ≡ k = omega arith in
    rw e (spells-nil (rw bits_of-length (omega arith)))
bytes-spell s k (suc n) h =
    let e : k + 8 * suc n ≡ k + 8 + 8 * n = omega arith in
    rw e (spells-append (number-spells s k 8 (omega arith)) (bytes-spell s (k + 8) n (omega arith)))

pub name-spells : (s : List ℕ) (at : ℕ)
    → All (λ name q. Spells s at q (code 5 (length name) ++ blocks (code 8) name)) (name_at s at)
unfolding name_at
name-spells s at =
    all_then (field s at 5) _ (λ n p e. all-must _ _ _ (λ _. all-must _ _ _ (λ h. all-must _ _ _ (λ _.
    all-got
    (rw (bytes_at-length s p n)
    (spells-append (field-spells s at 5 e) (bytes-spell s p n (holds-true s p (8 * n) h))))))))

pub new-spells : (s : List ℕ) (before : List Function) (at : ℕ)
    → All (λ name q. Spells s at q (code 5 (length name) ++ blocks (code 8) name)) (new_name_at s before at)
unfolding new_name_at
new-spells s before at =
    all_then (name_at s at) _ (λ name p e. all-must _ _ _ (λ _. all-got (all-at (rw e at (name-spells s at)))))

pub cost-spells : (s : List ℕ) (at : ℕ)
    → All (λ c q. Spells s at q
    (code 1 c.has_cost ++ pick (eqb c.has_cost 0) [] (code 64 c.cost))) (cost_at s at)
unfolding cost_at pick
cost-spells s at =
    all_then (field s at 1) _ (λ has p e.
    let a = field-spells s at 1 e in
    all-pick (eqb has 0) _ _
    (λ z.
    let k : has ≡ 0 = eqb-true _ _ z in
    all-got (rw append-nil (rw k at a)))
    (λ o.
    let k : has ≡ 1 = one_of has (field-read s at 1 e).small o in
    all_then (field s p 64) _ (λ c q d. all-got (spells-append (rw k at a) (field-spells s p 64 d)))))

pub flags-spell : (s : List ℕ) (at : ℕ)
    → All (λ f q. Spells s at q (code 1 f.unextractable ++ code 1 f.hidden)) (flags_at s at)
unfolding flags_at
flags-spell s at =
    all_then (field s at 1) _ (λ u p e. all_then (field s p 1) _ (λ h q d.
    all-got (spells-append (field-spells s at 1 e) (field-spells s p 1 d))))

pub output-spells : (s kinds : List ℕ) (at : ℕ) → All (λ k q. Spells s at q (code 5 k)) (output_at s kinds at)
unfolding output_at
output-spells s kinds at =
    all_then (field s at 5) _ (λ k p e. all-must _ _ _ (λ _. all-must _ _ _ (λ _. all-got (field-spells s at 5 e))))

pub argument-spells : (s : List ℕ) (n at : ℕ) → All (λ k q. Spells s at q (code 5 k)) (argument_at s n at)
unfolding argument_at
argument-spells s n at = all_then (field s at 5) _ (λ k p e. all-must _ _ _ (λ _. all-got (field-spells s at 5 e)))

pub arguments-spell : (s : List ℕ) (n at : ℕ)
    → All (λ xs q. Spells s at q (code 4 (length xs) ++ blocks (code 5) xs)) (arguments_at s n at)
unfolding arguments_at
arguments-spell s n at =
    all_then (field s at 4) _ (λ m p e. all-must _ _ _ (λ _. all_of _ (λ xs q d.
    let c : length xs ≡ m = many-length _ m p d in
    let b = all-at (rw d at (many-spells s (code 5) _ m p (end-in s at 4 e) (λ xs p. argument-spells s n p))) in
    rw c (spells-append (field-spells s at 4 e) b))))

pub function-spells : (s kinds : List ℕ) (before : List Function) (at : ℕ)
    → All (λ f q. Spells s at q (code_function f)) (function_at s kinds before at)
unfolding function_at code_function
function-spells s kinds before at =
    all_then (new_name_at s before at) _ (λ name p e₁.
    let a = all-at (rw e₁ at (new-spells s before at)) in
    all_then (cost_at s p) _ (λ cost q e₂.
    let b = all-at (rw e₂ at (cost-spells s p)) in
    all_then (flags_at s q) _ (λ flags t e₃.
    let c = all-at (rw e₃ at (flags-spell s q)) in
    all_then (output_at s kinds t) _ (λ output u e₄.
    let d = all-at (rw e₄ at (output-spells s kinds t)) in
    all_then (arguments_at s (length kinds) u) _ (λ arguments v e₅.
    let e = all-at (rw e₅ at (arguments-spell s (length kinds) u)) in
    all-got (spells-append a (spells-append b (spells-append c (spells-append d e)))))))))

pub functions-spell : (s kinds : List ℕ) (n at : ℕ) → at ≤ length (bits_of s)
    → All (λ fs q. Spells s at q (blocks code_function fs)) (functions_at s kinds n at)
unfolding functions_at
functions-spell s kinds n at h = many-spells s code_function _ n at h (λ fs p. function-spells s kinds fs p)

cell-spells : (s : List ℕ) (bound at : ℕ) → All (λ v q. Spells s at q (code 9 v)) (cell_at s bound at)
unfolding cell_at
cell-spells s bound at = all_then (field s at 9) _ (λ v p e. all-must _ _ _ (λ _. all-got (field-spells s at 9 e)))

cells-spell : (s : List ℕ) (sorts : List Sort) (l : ℕ) (ks : List ℕ) (at : ℕ) → at ≤ length (bits_of s)
    → All (λ xs q. Spells s at q (blocks (code 9) xs)) (cells_at s sorts l ks at)
cells-spell s sorts l ks at h =
    subst (All (λ xs q. Spells s at q (blocks (code 9) xs))) (sym (cells-many s sorts l ks at))
    (many-spells s (code 9) _ (length ks) at h (λ xs p. cell-spells s (range sorts l (get_or ks (length xs) 0)) p))

pub row-spells : (s : List ℕ) (sorts : List Sort) (l : ℕ) (fs : List Function) (at : ℕ)
    → All (λ r q. Spells s at q (code_row r)) (row_at s sorts l fs at)
unfolding row_at code_row
row-spells s sorts l fs at =
    all_then (field s at 7) _ (λ f p e. all-must _ _ _ (λ _. all_then (field s p 1) _ (λ bit q d.
    all_then (cells_at s sorts l (columns (function_no fs f)) q) _ (λ cells t g.
    let c = all-at (rw g at (cells-spell s sorts l (columns (function_no fs f)) q (end-in s p 1 d))) in
    all-got (spells-append (field-spells s at 7 e) (spells-append (field-spells s p 1 d) c))))))

pub rows-spell : (s : List ℕ) (sorts : List Sort) (l : ℕ) (fs : List Function) (n at : ℕ) → at ≤ length (bits_of s)
    → All (λ rows q. Spells s at q (blocks code_row rows)) (rows_at s sorts l fs n at)
unfolding rows_at
rows-spell s sorts l fs n at h = many-spells s code_row _ n at h (λ rows p. row-spells s sorts l fs p)
