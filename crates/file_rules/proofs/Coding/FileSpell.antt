-- An accepted file is its table's code, so that two different files never hold the same table. Assumes nothing.
use Prim.Native.Nat.{ℕ, zero, suc, ◌+◌, ◌*◌, ◌/◌, ◌%◌, ◌≤◌, ◌<◌}
use mathlib.Core.List.{List, [], ◌∷◌}
use mathlib.Core.Path.{◌≡◌, refl, sym, ap, ◌∙◌}
use native.Mathlib.Nat.{zero-div, div-div-eq-div-mul}
use native.Mathlib.Omega.{arith}
use lib.ListN.{length, replicate, take, drop, get_or}
use lib.Seq.{take_all}
use borrow.Author.Tests.{eqb-true}
use Rattle.bits.specs.Bits.{bits_of}
use Rattle.bits.specs.Got.{got}
use Rattle.bits.specs.Field.{field}
use Rattle.bits.proofs.BitsLaws.{bits_of-length}
use Rattle.bits.proofs.GotLaws.{All, all-got, all-at, all_of, all_then, all-must}
use Rattle.file_rules.specs.Table.{Sort, Function, Table}
use Rattle.file_rules.specs.Every.{Every, every-nil, every-cons}
use Rattle.file_rules.specs.Sorts.{kinds_of}
use Rattle.file_rules.specs.Arrays.{blocks}
use Rattle.file_rules.specs.File.{version_at, sorts_part, literals_part, functions_part, rows_part, pad_bits, end_at, table_at}
use Rattle.file_rules.proofs.SortLaws.{sorts-length}
use Rattle.file_rules.proofs.LiteralLaws.{literals-length}
use Rattle.file_rules.proofs.DifferLaws.{functions-length}
use Rattle.file_rules.proofs.RowLaws.{rows-length}
use Rattle.file_rules.specs.Code.{code, code_many, code_sort, code_literal, code_function, code_row, code_table, code_file}
use Rattle.file_rules.proofs.Coding.SpellLaws.{Spells, spells-append, field-spells}
use Rattle.file_rules.proofs.Coding.PartsSpell.{end-in, sorts-spell, literals-spell, functions-spell, rows-spell}

version-spells : (s : List ℕ) (at : ℕ) → All (λ v q. Spells s at q (code 4 1)) (version_at s at)
unfolding version_at
version-spells s at =
    all_then (field s at 4) _ (λ v p e. all-must _ _ _ (λ b.
    let o : v ≡ 1 = eqb-true _ _ b in
    all-got (rw o at (field-spells s at 4 e))))

-- A count, and then as many things.
counted : {A : Type 0} (s : List ℕ) (at w : ℕ) (c : A → List ℕ) (xs : List A) {n p q : ℕ} → field s at w ≡ got n p
    → length xs ≡ n
    → Spells s p q (blocks c xs) → Spells s at q (code_many w c xs)
counted s at w c xs e m k = rw m (spells-append (field-spells s at w e) k)

sorts-part : (s : List ℕ) (at : ℕ) → All (λ xs q. Spells s at q (code_many 5 code_sort xs)) (sorts_part s at)
unfolding sorts_part
sorts-part s at =
    all_then (field s at 5) _ (λ n p e. all_of _ (λ xs q d.
    counted s at 5 code_sort xs e (sorts-length s n p d) (all-at (rw d at (sorts-spell s n p (end-in s at 5 e))))))

literals-part : (s : List ℕ) (at : ℕ) → All (λ xs q. Spells s at q (code_many 9 code_literal xs)) (literals_part s at)
unfolding literals_part
literals-part s at =
    all_then (field s at 9) _ (λ n p e. all_of _ (λ xs q d.
    counted s at 9 code_literal xs e (literals-length s n p d)
    (all-at (rw d at (literals-spell s n p (end-in s at 9 e))))))

functions-part : (s kinds : List ℕ) (at : ℕ)
    → All (λ xs q. Spells s at q (code_many 7 code_function xs)) (functions_part s kinds at)
unfolding functions_part
functions-part s kinds at =
    all_then (field s at 7) _ (λ n p e. all_of _ (λ xs q d.
    counted s at 7 code_function xs e (functions-length s kinds n p d)
    (all-at (rw d at (functions-spell s kinds n p (end-in s at 7 e))))))

rows-part : (s : List ℕ) (sorts : List Sort) (l : ℕ) (fs : List Function) (at : ℕ)
    → All (λ xs q. Spells s at q (code_many 11 code_row xs)) (rows_part s sorts l fs at)
unfolding rows_part
rows-part s sorts l fs at =
    all_then (field s at 11) _ (λ n p e. all-must _ _ _ (λ _. all_of _ (λ xs q d.
    counted s at 11 code_row xs e (rows-length s sorts l fs n p d)
    (all-at (rw d at (rows-spell s sorts l fs n p (end-in s at 11 e)))))))

pub code-zero : (w : ℕ) → code w 0 ≡ replicate w 0
unfolding code
code-zero zero = refl
code-zero (suc w) = rw (zero-div, code-zero w)

record Ended (s : List ℕ) (at p q : ℕ) : Type 0 where
  last : q ≡ 8 * length s
  spelt : Spells s at q (replicate (pad_bits at) 0)

end-spells : (s : List ℕ) (at : ℕ) → All (Ended s at) (end_at s at)
unfolding end_at
end-spells s at =
    all_then (field s at (pad_bits at)) _ (λ v p e. all-must _ _ _ (λ a. all-must _ _ _ (λ b.
    let z : v ≡ 0 = eqb-true _ _ a in
    all-got
    (record {
      last = eqb-true _ _ b;
      spelt = rw (← code-zero (pad_bits at)) (rw z at (field-spells s at (pad_bits at) e));
    }))))

-- What spells the whole file is the file.
whole : {s xs : List ℕ} {b : ℕ} → b ≡ 8 * length s → Spells s 0 b xs → bits_of s ≡ xs
whole {s} {xs} {b} e p =
    let n : length (bits_of s) ≤ length xs = rw bits_of-length (omega (arith, p.size)) in
    sym (take_all (length xs) (bits_of s) n) ∙ p.are

file-all : (s : List ℕ) → All (λ t k. bits_of s ≡ code_file t) (table_at s)
unfolding table_at code_file code_table
file-all s =
    all_then (version_at s 0) _ (λ version a e₁.
    let k₁ = all-at (rw e₁ at (version-spells s 0)) in
    all_then (sorts_part s a) _ (λ sorts b e₂.
    let k₂ = all-at (rw e₂ at (sorts-part s a)) in
    all_then (literals_part s b) _ (λ literals c e₃.
    let k₃ = all-at (rw e₃ at (literals-part s b)) in
    all_then (functions_part s (kinds_of sorts) c) _ (λ functions d e₄.
    let k₄ = all-at (rw e₄ at (functions-part s (kinds_of sorts) c)) in
    all_then (rows_part s sorts (length literals) functions d) _ (λ rows e e₅.
    let k₅ = all-at (rw e₅ at (rows-part s sorts (length literals) functions d)) in
    all_then (end_at s e) _ (λ end f e₆.
    let k₆ = all-at (rw e₆ at (end-spells s e)) in
    let t = spells-append k₁ (spells-append k₂ (spells-append k₃ (spells-append k₄ k₅))) in
    all-got (whole k₆.last (spells-append t (same-pad _ t.size k₆.spelt)))))))))
  where
    same-pad : (x : ℕ) {y z : ℕ} → x + 0 ≡ y → Spells s y z (replicate (pad_bits y) 0)
        → Spells s y z (replicate (pad_bits x) 0)
    same-pad x {y} h p =
        let e : x ≡ y = omega arith in
        rw e p

-- An accepted file is its table's code.
pub file_is_code : (s : List ℕ) {t : Table} {k : ℕ} → table_at s ≡ got t k → bits_of s ≡ code_file t
file_is_code s e = all-at (rw e at (file-all s))

-- A byte is known by its bits.
step : (x y : ℕ) → x / 2 ≡ y / 2 → x % 2 ≡ y % 2 → x ≡ y
step x y e d = omega arith

step-at : (b c n : ℕ) → b / (n * 2) ≡ c / (n * 2) → b / n % 2 ≡ c / n % 2 → b / n ≡ c / n
step-at b c n e d = step (b / n) (c / n) (div-div-eq-div-mul b n 2 ∙ e ∙ sym (div-div-eq-div-mul c n 2)) d

top : (b c : ℕ) → b < 256 → c < 256 → b / 256 ≡ c / 256
top b c h k = omega arith

abbrev byte_bits : ℕ → List ℕ
byte_bits b =
    (b / 128 % 2) ∷ (b / 64 % 2) ∷ (b / 32 % 2) ∷ (b / 16 % 2) ∷ (b / 8 % 2) ∷ (b / 4 % 2) ∷ (b / 2 % 2) ∷ (b % 2) ∷ []

byte-same : (b c : ℕ) → b < 256 → c < 256 → byte_bits b ≡ byte_bits c → b ≡ c
byte-same b c h k e =
    let f₇ : b / 128 ≡ c / 128 = step-at b c 128 (top b c h k) (ap (λ (l : List ℕ). get_or l 0 0) e) in
    let f₆ : b / 64 ≡ c / 64 = step-at b c 64 f₇ (ap (λ (l : List ℕ). get_or l 1 0) e) in
    let f₅ : b / 32 ≡ c / 32 = step-at b c 32 f₆ (ap (λ (l : List ℕ). get_or l 2 0) e) in
    let f₄ : b / 16 ≡ c / 16 = step-at b c 16 f₅ (ap (λ (l : List ℕ). get_or l 3 0) e) in
    let f₃ : b / 8 ≡ c / 8 = step-at b c 8 f₄ (ap (λ (l : List ℕ). get_or l 4 0) e) in
    let f₂ : b / 4 ≡ c / 4 = step-at b c 4 f₃ (ap (λ (l : List ℕ). get_or l 5 0) e) in
    let f₁ : b / 2 ≡ c / 2 = step-at b c 2 f₂ (ap (λ (l : List ℕ). get_or l 6 0) e) in
    step b c f₁ (ap (λ (l : List ℕ). get_or l 7 0) e)

-- A list of bytes is known by its bits.
pub bytes_same : {s u : List ℕ} → Every (λ b. b < 256) s → Every (λ b. b < 256) u → bits_of s ≡ bits_of u → s ≡ u
unfolding bits_of
bytes_same every-nil every-nil e = refl
bytes_same every-nil (every-cons k ks) e = cc
bytes_same (every-cons h hs) every-nil e = cc
bytes_same (every-cons {x = b} {xs = s} h hs) (every-cons {x = c} {xs = u} k ks) e =
    let f : b ≡ c = byte-same b c h k (ap (take 8) e) in
    let g : s ≡ u = bytes_same hs ks (ap (drop 8) e) in
    rw (f, g)

-- Two different files never hold the same table.
pub file-unique : {s u : List ℕ} {t : Table} {j k : ℕ} → Every (λ b. b < 256) s → Every (λ b. b < 256) u
    → table_at s ≡ got t j → table_at u ≡ got t k → s ≡ u
file-unique {s} {u} h k e d = bytes_same h k (file_is_code s e ∙ sym (file_is_code u d))
