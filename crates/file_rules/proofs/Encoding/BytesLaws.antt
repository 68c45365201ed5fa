-- The bytes made of bits have those bits, and every table within the limits has a file of bytes. Assumes nothing.
use Prim.Native.Nat.{ℕ, zero, suc, ◌+◌, ◌*◌, ◌/◌, ◌%◌, ◌^◌, ◌<◌}
use mathlib.Core.Bool.{Bool, true, false}
use mathlib.Core.List.{List, [], ◌∷◌, ◌++◌}
use mathlib.Core.Path.{◌≡◌, refl, ap, ◌∙◌}
use native.Mathlib.Omega.{arith}
use lib.Dec.{eqb}
use lib.IntN.{ℤ}
use lib.ListN.{length, take, drop, replicate, length-append, length-drop, length-replicate, take-append-drop}
use lib.Seq.{length-take-le}
use Rattle.bits.specs.Bits.{bits_of, value}
use Rattle.bits.specs.Got.{got, pick}
use Rattle.file_rules.specs.Table.{Sort, Function, Row, Table}
use Rattle.file_rules.specs.Every.{Every, every-nil, every-cons}
use Rattle.file_rules.specs.Arrays.{blocks}
use Rattle.file_rules.specs.File.{pad_bits, table_at}
use Rattle.file_rules.specs.Accepted.{Accepted}
use Rattle.file_rules.specs.Code.{
  code,
  code_many,
  code_sort,
  code_literal,
  unsigned,
  code_function,
  code_row,
  code_table,
  code_file,
}
use Rattle.file_rules.proofs.Coding.SpellLaws.{Bit, every_take, every_drop, value-lt, code-value}
use Rattle.file_rules.specs.Bytes.{packed, file_of}
use Rattle.file_rules.proofs.Encoding.FileBack.{code_is_file}

bits-cons : (b : ℕ) (s : List ℕ) → bits_of (b ∷ s) ≡ code 8 b ++ bits_of s
unfolding bits_of code
bits-cons b s =
    let e : b / 1 ≡ b = omega arith in
    rw e

pub packed-length : (n : ℕ) (bits : List ℕ) → length (packed n bits) ≡ n
unfolding packed
packed-length zero bits = refl
packed-length (suc n) bits = ap suc (packed-length n (drop 8 bits))

pub packed-bits : (n : ℕ) (bits : List ℕ) → length bits ≡ 8 * n → Every Bit bits → bits_of (packed n bits) ≡ bits
unfolding packed bits_of
packed-bits zero [] e h = refl
packed-bits zero (b ∷ bits) e h = let z : ⊥ = omega arith in absurd z
packed-bits (suc n) bits e h =
    let l : length (take 8 bits) ≡ 8 = length-take-le 8 bits (omega arith) in
    let m : length (drop 8 bits) ≡ 8 * n = rw length-drop (omega arith) in
    let c : code 8 (value 0 (take 8 bits)) ≡ take 8 bits = rw l at (code-value 0 (every_take 8 h)) in
    bits-cons (value 0 (take 8 bits)) (packed n (drop 8 bits))
    ∙ rw (c, packed-bits n (drop 8 bits) m (every_drop 8 h)) (take-append-drop 8 bits)

pub packed-bytes : (n : ℕ) (bits : List ℕ) → length bits ≡ 8 * n → Every Bit bits
    → Every (λ b. b < 256) (packed n bits)
unfolding packed
packed-bytes zero bits e h = every-nil
packed-bytes (suc n) bits e h =
    let l : length (take 8 bits) ≡ 8 = length-take-le 8 bits (omega arith) in
    let m : length (drop 8 bits) ≡ 8 * n = rw length-drop (omega arith) in
    every-cons (rw l at (value-lt (every_take 8 h))) (packed-bytes n (drop 8 bits) m (every_drop 8 h))

-- A code is bits.
every_append : {A : Type 0} {P : A → Type 0} {xs ys : List A} → Every P xs → Every P ys → Every P (xs ++ ys)
every_append every-nil k = k
every_append (every-cons p h) k = every-cons p (every_append h k)

code-bits : (w v : ℕ) → Every Bit (code w v)
unfolding code
code-bits zero v = every-nil
code-bits (suc w) v =
    let h : v / 2 ^ w % 2 < 2 = omega arith in
    every-cons h (code-bits w v)

blocks-bits : {A : Type 0} (c : A → List ℕ) → ((x : A) → Every Bit (c x)) → (xs : List A) → Every Bit (blocks c xs)
unfolding blocks
blocks-bits c h [] = every-nil
blocks-bits c h (x ∷ xs) = every_append (h x) (blocks-bits c h xs)

many-bits : {A : Type 0} (w : ℕ) (c : A → List ℕ) → ((x : A) → Every Bit (c x)) → (xs : List A)
    → Every Bit (code_many w c xs)
many-bits w c h xs = every_append (code-bits w (length xs)) (blocks-bits c h xs)

pick-bits : (t : Bool) (w v : ℕ) → Every Bit (pick t [] (code w v))
unfolding pick
pick-bits true w v = every-nil
pick-bits false w v = code-bits w v

sort-bits : (x : Sort) → Every Bit (code_sort x)
unfolding code_sort
sort-bits x = every_append (code-bits 1 x.kind) (pick-bits (eqb x.kind 0) 10 x.classes)

literal-bits : (z : ℤ) → Every Bit (code_literal z)
unfolding code_literal
literal-bits z = code-bits 64 (unsigned z)

function-bits : (f : Function) → Every Bit (code_function f)
unfolding code_function
function-bits f =
    every_append (many-bits 5 (code 8) (code-bits 8) f.name)
    (every_append (every_append (code-bits 1 f.has_cost) (pick-bits (eqb f.has_cost 0) 64 f.cost))
    (every_append (every_append (code-bits 1 f.unextractable) (code-bits 1 f.hidden))
    (every_append (code-bits 5 f.output) (many-bits 4 (code 5) (code-bits 5) f.arguments))))

row-bits : (r : Row) → Every Bit (code_row r)
unfolding code_row
row-bits r =
    every_append (code-bits 7 r.function)
    (every_append (code-bits 1 r.subsumed) (blocks-bits (code 9) (code-bits 9) r.cells))

table-bits : (t : Table) → Every Bit (code_table t)
unfolding code_table
table-bits t =
    every_append (code-bits 4 1)
    (every_append (many-bits 5 code_sort sort-bits t.sorts)
    (every_append (many-bits 9 code_literal literal-bits t.literals)
    (every_append (many-bits 7 code_function function-bits t.functions) (many-bits 11 code_row row-bits t.rows))))

zero_bits : (n : ℕ) → Every Bit (replicate n 0)
zero_bits zero = every-nil
zero_bits (suc n) =
    let h : 0 < 2 = omega arith in
    every-cons h (zero_bits n)

file-bits : (t : Table) → Every Bit (code_file t)
unfolding code_file
file-bits t = every_append (table-bits t) (zero_bits (pad_bits (length (code_table t))))

-- Whole bytes.
pad-whole : (n : ℕ) → n + pad_bits n ≡ 8 * ((n + pad_bits n) / 8)
pad-whole n = omega arith

code_file-length : (t : Table) → length (code_file t) ≡ length (code_table t) + pad_bits (length (code_table t))
unfolding code_file
code_file-length t = length-append (code_table t) _ ∙ rw length-replicate

whole : (t : Table) → length (code_file t) ≡ 8 * (length (code_file t) / 8)
whole t = rw (code_file-length t) (pad-whole (length (code_table t)))

pub file_of-bytes : (t : Table) → Every (λ b. b < 256) (file_of t)
unfolding file_of
file_of-bytes t = packed-bytes (length (code_file t) / 8) (code_file t) (whole t) (file-bits t)

pub file_of-length : (t : Table) → length (file_of t) ≡ (length (code_table t) + pad_bits (length (code_table t))) / 8
unfolding file_of
file_of-length t = packed-length (length (code_file t) / 8) (code_file t) ∙ ap (λ (n : ℕ). n / 8) (code_file-length t)

-- A table within the limits has a file.
pub file_of-holds : (t : Table) → Accepted t → table_at (file_of t) ≡ got t (8 * length (file_of t))
unfolding file_of
file_of-holds t o =
    code_is_file (file_of t) t o (packed-bits (length (code_file t) / 8) (code_file t) (whole t) (file-bits t))
