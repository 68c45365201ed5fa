-- How long the program's lines are. Assumes nothing.
use mathlib.Core.Path.{◌≡◌, refl, ap, sym, ◌∙◌}
use Prim.{Dec, yes, no}
use Prim.Native.Nat.{ℕ, zero, suc, ◌+◌, ◌*◌, ◌/◌, ◌^◌, ◌<◌, ◌≤◌}
use native.Mathlib.Decide.{dec_lt}
use native.Mathlib.Omega.{arith}
use lib.ListN.{length, get_or, take, drop, length-append, take-append-drop}
use lib.Seq.{take-suc}
use mathlib.Core.List.{List, [], ◌∷◌, ◌++◌, append_assoc, append-nil}
use native.Mathlib.Numerals.{add-one}
use Rattle.decimal.specs.Decimal.{digits}
use Rattle.decimal.proofs.DigitLaws.{digits-length-one, digits-length-more}
use Rattle.program_rules.specs.Lines.{
  best_word,
  variants_word,
  variant_word,
  refused_word,
  number_text,
  spaced,
  line_text,
  best_line,
  variants_line,
  variant_line,
  refused_line,
}

-- 10 to the power k + 1
unfoldable tens : ℕ → ℕ
tens zero = 10
tens (suc k) = tens k * 10

digits-below : (k x : ℕ) → x < tens k → length (digits x) ≤ k + 1
unfolding tens
digits-below zero x l = omega (arith, digits-length-one x l)
digits-below (suc k) x l = by (digits-below k) (dec_lt x 10)
  where
    by : ((y : ℕ) → y < tens k → length (digits y) ≤ k + 1) → Dec (x < 10) → length (digits x) ≤ suc k + 1
    by ih (yes b) = omega (arith, digits-length-one x b)
    by ih (no n) = omega (arith, digits-length-more x (omega arith), ih (x / 10) (omega (arith, l)))

-- A number of 64 bits has at most 20 digits.
pub digits-few : (x : ℕ) → x < 2 ^ 64 → length (digits x) ≤ 20
unfolding tens
digits-few x l = digits-below 19 x (omega (arith, l))

pub number-length : (x a : ℕ) → length (number_text x a) ≡ length (digits x) + 1
unfolding number_text
number-length x a = rw length-append refl

pub variant-length :
    (i c n : ℕ) → length (variant_line i c n) ≡ length (digits i) + length (digits c) + length (digits n) + 11
unfolding variant_line
variant-length i c n =
    rw (length-append, length-append, length-append, number-length, number-length, number-length) (omega arith)

pub refused-length : (k : ℕ) → length (refused_line k) ≡ length (digits k) + 9
unfolding refused_line
refused-length k = rw (length-append, number-length) (omega arith)

-- ---- a line of a word and numbers
pub spaced-append : (xs ys : List ℕ) → spaced (xs ++ ys) ≡ spaced xs ++ spaced ys
unfolding spaced
spaced-append [] ys = refl
spaced-append (x ∷ xs) ys =
    ap (λ (l : List ℕ). number_text x 32 ++ l) (spaced-append xs ys)
    ∙ sym (append_assoc (number_text x 32) (spaced xs) (spaced ys))

-- one number more
pub spaced-more :
    (xs : List ℕ) (i : ℕ) → i < length xs →
    spaced (take (i + 1) xs) ≡ spaced (take i xs) ++ number_text (get_or xs i 0) 32
unfolding spaced
spaced-more xs i l =
    ap (λ (k : ℕ). spaced (take k xs)) (add-one i)
    ∙ ap spaced (take-suc xs i 0 l)
    ∙ spaced-append (take i xs) (get_or xs i 0 ∷ [])
    ∙ ap (λ (l : List ℕ). spaced (take i xs) ++ l) (append-nil (number_text (get_or xs i 0) 32))

pub spaced-longer :
    (xs : List ℕ) (i : ℕ) → i < length xs →
    length (spaced (take (i + 1) xs)) ≡ length (spaced (take i xs)) + (length (digits (get_or xs i 0)) + 1)
spaced-longer xs i l =
    ap length (spaced-more xs i l)
    ∙ length-append (spaced (take i xs)) (number_text (get_or xs i 0) 32)
    ∙ ap (λ (k : ℕ). length (spaced (take i xs)) + k) (number-length (get_or xs i 0) 32)

pub front-more :
    (w xs : List ℕ) (i : ℕ) → i < length xs →
    w ++ spaced (take (i + 1) xs) ≡ (w ++ spaced (take i xs)) ++ number_text (get_or xs i 0) 32
front-more w xs i l =
    ap (λ (t : List ℕ). w ++ t) (spaced-more xs i l)
    ∙ sym (append_assoc w (spaced (take i xs)) (number_text (get_or xs i 0) 32))

-- the first numbers take no more than all of them
pub spaced-front : (xs : List ℕ) (i : ℕ) → length (spaced (take i xs)) ≤ length (spaced xs)
spaced-front xs i =
    let whole : length (spaced (take i xs ++ drop i xs)) ≡ length (spaced xs) =
    ap (λ (l : List ℕ). length (spaced l)) (take-append-drop i xs) in
    let parts : length (spaced (take i xs ++ drop i xs)) ≡ length (spaced (take i xs)) + length (spaced (drop i xs)) =
    ap length (spaced-append (take i xs) (drop i xs)) ∙ length-append (spaced (take i xs)) (spaced (drop i xs)) in
    omega (arith, whole, parts)

pub line-long :
    (w xs : List ℕ) (z : ℕ) → length (line_text w xs z) ≡ length w + length (spaced xs) + length (digits z) + 1
unfolding line_text
line-long w xs z = rw (length-append, length-append, number-length) (omega arith)

pub best-line : (c n p : ℕ) → line_text best_word (c ∷ n ∷ []) p ≡ best_line c n p
unfolding line_text spaced best_line
best-line c n p =
    ap (λ (l : List ℕ). l ++ number_text p 10)
    (ap (λ (l : List ℕ). best_word ++ (number_text c 32 ++ l)) (append-nil (number_text n 32))
    ∙ sym (append_assoc best_word (number_text c 32) (number_text n 32)))

pub variant-line : (i c n : ℕ) → line_text variant_word (i ∷ c ∷ []) n ≡ variant_line i c n
unfolding line_text spaced variant_line
variant-line i c n =
    ap (λ (l : List ℕ). l ++ number_text n 10)
    (ap (λ (l : List ℕ). variant_word ++ (number_text i 32 ++ l)) (append-nil (number_text c 32))
    ∙ sym (append_assoc variant_word (number_text i 32) (number_text c 32)))

pub variants-line : (k p : ℕ) → line_text variants_word (k ∷ []) p ≡ variants_line k p
unfolding line_text spaced variants_line
variants-line k p = ap (λ (l : List ℕ). (variants_word ++ l) ++ number_text p 10) (append-nil (number_text k 32))

pub refused-line : (k : ℕ) → line_text refused_word [] k ≡ refused_line k
unfolding line_text spaced refused_line
refused-line k = ap (λ (l : List ℕ). l ++ number_text k 10) (append-nil refused_word)
