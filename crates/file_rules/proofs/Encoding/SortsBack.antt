-- Sorts and literals that are spelt are read back. Assumes nothing.
use Prim.Native.Nat.{ℕ, zero, suc, ◌+◌, ◌-◌, ◌^◌, ◌≤◌, ◌<◌}
use mathlib.Core.List.{List, [], ◌∷◌, ◌++◌}
use mathlib.Core.Path.{◌≡◌, refl, ap, ◌∙◌}
use native.Mathlib.Omega.{arith}
use lib.Dec.{eqb}
use lib.IntN.{ℤ, pos, negsuc}
use lib.ListN.{length}
use lib.Signed.{mag}
use borrow.Author.Tests.{le-leb}
use Rattle.bits.specs.Got.{got, then, must, pick}
use Rattle.file_rules.specs.Table.{Sort}
use Rattle.file_rules.specs.Every.{Every}
use Rattle.file_rules.specs.Arrays.{blocks}
use Rattle.file_rules.specs.Sorts.{classes_of, sort_at, sorts_at}
use Rattle.file_rules.specs.Literals.{signed, literal_at, literals_at}
use Rattle.file_rules.specs.Accepted.{SortOk}
use Rattle.file_rules.proofs.SignedLaws.{signed-when-small, signed-when-large}
use Rattle.file_rules.specs.Code.{code, code_sort, unsigned, code_literal}
use Rattle.file_rules.proofs.Coding.SpellLaws.{Spells}
use Rattle.file_rules.proofs.Encoding.BackLaws.{spells-left, spells-right, spells-end, field_back, every-mid, many-back}

sort-by : {s : List ℕ} {at q : ℕ} (t k n : ℕ) → k < 2 → (k ≡ 0 → n ≡ 0) → t + n ≤ 512
    → Spells s at q (code 1 k ++ pick (eqb k 0) [] (code 10 n))
    → sort_at s at t ≡ got (record { kind = k; classes = n }) q
unfolding sort_at then must pick
sort-by t zero n h z f p =
    rw (field_back 1 0 (spells-left (code 1 0) _ p) h, z refl, spells-end (spells-right (code 1 0) _ p))
sort-by t (suc zero) n h z f p =
    rw (
      field_back 1 1 (spells-left (code 1 1) _ p) h,
      field_back 10 n (spells-right (code 1 1) _ p) (omega arith),
      le-leb n 512 (omega arith),
      le-leb (t + n) 512 f,
    )
sort-by t (suc (suc k)) n h z f p = let o : ⊥ = omega arith in absurd o

-- A sort, where the sorts before it have t classes.
pub sort-back : {s : List ℕ} {at q : ℕ} (t : ℕ) (x : Sort) → SortOk x → t + x.classes ≤ 512
    → Spells s at q (code_sort x) → sort_at s at t ≡ got x q
unfolding code_sort
sort-back t x o f p = sort-by t x.kind x.classes o.bit o.base f p

classes-mid : (before : List Sort) (x : Sort) (after : List Sort)
    → classes_of (before ++ (x ∷ after)) ≡ classes_of before + (x.classes + classes_of after)
unfolding classes_of
classes-mid [] x after = omega arith
classes-mid (b ∷ before) x after = omega (arith, classes-mid before x after)

pub sorts-back : {s : List ℕ} {at q : ℕ} (xs : List Sort) → Every SortOk xs → classes_of xs ≤ 512
    → Spells s at q (blocks code_sort xs) → sorts_at s (length xs) at ≡ got xs q
unfolding sorts_at
sorts-back {s} xs ok few p =
    many-back code_sort _ xs
    (λ before x after a b e.
    let f : classes_of (before ++ (x ∷ after)) ≤ 512 = rw e at few in
    sort-back (classes_of before) x (every-mid before _ after (rw e at ok)) (omega (arith, classes-mid before x after)))
    p

unsigned-lt : (z : ℤ) → mag z < 2 ^ 63 → unsigned z < 2 ^ 64
unfolding unsigned
unsigned-lt (pos n) h = omega arith
unsigned-lt (negsuc n) h = omega arith

-- Two's complement loses nothing.
signed-unsigned : (z : ℤ) → mag z < 2 ^ 63 → signed (unsigned z) ≡ z
unfolding unsigned
signed-unsigned (pos n) h = signed-when-small n h
signed-unsigned (negsuc n) h =
    let l : 2 ^ 63 ≤ 2 ^ 64 - 1 - n = omega arith in
    let e : 2 ^ 64 - 1 - (2 ^ 64 - 1 - n) ≡ n = omega arith in
    signed-when-large (2 ^ 64 - 1 - n) l ∙ ap negsuc e

pub literal-back : {s : List ℕ} {at q : ℕ} (z : ℤ) → mag z < 2 ^ 63 → Spells s at q (code_literal z)
    → literal_at s at ≡ got z q
unfolding literal_at code_literal then
literal-back z h p = rw (field_back 64 (unsigned z) p (unsigned-lt z h), signed-unsigned z h)

pub literals-back : {s : List ℕ} {at q : ℕ} (xs : List ℤ) → Every (λ z. mag z < 2 ^ 63) xs
    → Spells s at q (blocks code_literal xs) → literals_at s (length xs) at ≡ got xs q
unfolding literals_at
literals-back xs ok p =
    many-back code_literal _ xs (λ before z after a b e. literal-back z (every-mid before _ after (rw e at ok))) p
