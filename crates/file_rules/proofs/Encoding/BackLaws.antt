-- A field that spells a number is read back as the number, and so is a list of things. Assumes nothing.
use Prim.Native.Nat.{ℕ, zero, suc, ◌+◌, ◌*◌, ◌/◌, ◌%◌, ◌^◌, ◌≤◌, ◌<◌}
use mathlib.Core.List.{List, [], ◌∷◌, ◌++◌, append_assoc, append-nil}
use mathlib.Core.Path.{◌≡◌, refl, sym, ap, ◌∙◌}
use native.Mathlib.Nat.{pow-suc, mod-eq_of_lt}
use native.Mathlib.Omega.{arith}
use lib.Pow.{mod-pow-add}
use lib.ListN.{length, take, drop, length-append, length-drop}
use lib.Seq.{take-take, take-add, drop-drop, drop_at, take-append_seam, drop-append_seam, length-take-le}
use Rattle.bits.specs.Bits.{bits_of, value, number}
use Rattle.bits.specs.Got.{Got, got, then, many}
use Rattle.bits.specs.Field.{field}
use Rattle.bits.proofs.BitsLaws.{bits_of-length}
use Rattle.bits.proofs.FieldLaws.{holds-of-le, field-of-holds}
use Rattle.file_rules.specs.Every.{Every, every-nil, every-cons}
use Rattle.file_rules.specs.Arrays.{blocks}
use Rattle.file_rules.specs.Code.{code}
use Rattle.file_rules.proofs.Coding.SpellLaws.{Spells, code-length, shift}

-- The number that a code's bits make after those of u.
value-code : (u w v : ℕ) → value u (code w v) ≡ u * 2 ^ w + v % 2 ^ w
unfolding value code
value-code u zero v = omega arith
value-code u (suc w) v =
    let b = v / 2 ^ w % 2 in
    let h : value (u * 2 + b) (code w v) ≡ (u * 2 + b) * 2 ^ w + v % 2 ^ w = value-code (u * 2 + b) w v in
    let m : v % 2 ^ (1 + w) ≡ b * 2 ^ w + v % 2 ^ w = mod-pow-add v 1 w in
    let o : 1 + w ≡ suc w = omega arith in
    rw (h, ← o, m, o, pow-suc 2 w) (shift u b (2 ^ w) (v % 2 ^ w))

-- A number that fits is its code's.
pub value-of-code : (w v : ℕ) → v < 2 ^ w → value 0 (code w v) ≡ v
value-of-code w v h = value-code 0 w v ∙ rw (mod-eq_of_lt h) (omega arith)

module _ {s : List ℕ} {a c : ℕ} (xs ys : List ℕ) (p : Spells s a c (xs ++ ys)) where
  both : take (length xs + length ys) (drop a (bits_of s)) ≡ xs ++ ys
  both = rw (← length-append xs ys) p.are

  far : length xs + length ys + a ≤ length (bits_of s)
  far =
      let e : length (xs ++ ys) ≡ length xs + length ys = length-append xs ys in
      omega (arith, p.size, p.here)

  -- What spells two lists spells the first, and then the second.
  pub spells-left : Spells s a (length xs + a) xs
  spells-left =
      let l : length xs ≤ length xs + length ys = omega arith in
      record {
        size = refl;
        here = omega (arith, far);
        are =
            sym (take-take (length xs) (length xs + length ys) (drop a (bits_of s)) l)
            ∙ ap (take (length xs)) both
            ∙ take-append_seam xs ys;
      }

  pub spells-right : Spells s (length xs + a) c ys
  spells-right =
      let b = drop a (bits_of s) in
      let e : length (xs ++ ys) ≡ length xs + length ys = length-append xs ys in
      let n : length xs ≤ length b = rw length-drop (omega (arith, far)) in
      let l : length (take (length xs) b) ≡ length xs = length-take-le (length xs) b n in
      let o : a + length xs ≡ length xs + a = omega arith in
      let t : take (length xs) b ++ take (length ys) (drop (length xs) b) ≡ xs ++ ys =
      sym (take-add (length xs) (length ys) b) ∙ both in
      let d : take (length ys) (drop (length xs) b) ≡ ys =
      sym (drop_at (take (length xs) b) _ (length xs) l) ∙ ap (drop (length xs)) t ∙ drop-append_seam xs ys in
      record {
        size = omega (arith, p.size);
        here = p.here;
        are = rw (drop-drop (length xs) a (bits_of s), o) at d;
      }

-- What spells nothing ends where it begins.
pub spells-end : {s : List ℕ} {a c : ℕ} → Spells s a c [] → a ≡ c
spells-end p = omega (arith, p.size)

module _ {s : List ℕ} {k q : ℕ} (w v : ℕ) (p : Spells s k q (code w v)) where
  pub ends_at : k + w ≡ q
  ends_at =
      let e : length (code w v) ≡ w = code-length w v in
      omega (arith, p.size)

  pub ends-in : k + w ≤ 8 * length s
  ends-in = rw (← bits_of-length s) (rw ends_at p.here)

  pub number-back : v < 2 ^ w → number s k w ≡ v
  unfolding number
  number-back h = ap (value 0) (rw (code-length w v) at p.are) ∙ value-of-code w v h

  -- A field that spells a number is that number.
  pub field_back : v < 2 ^ w → field s k w ≡ got v q
  field_back h = field-of-holds s k w (holds-of-le s k w ends-in) ∙ rw (number-back h, ends_at)

module _ {A : Type 0} where
  pub then-got : {B : Type 0} {g : Got B} {b : B} {k : ℕ} (f : B → ℕ → Got A) → g ≡ got b k → then g f ≡ f b k
  unfolding then
  then-got f e = rw e

-- A code has as many bits as it is wide.
pub codes-long : (w : ℕ) (xs : List ℕ) → Every (λ (x : ℕ). length (code w x) ≡ w) xs
codes-long w [] = every-nil
codes-long w (x ∷ xs) = every-cons (code-length w x) (codes-long w xs)

-- What holds of every element holds of one in the middle.
pub every-mid : {A : Type 0} {P : A → Type 0} (before : List A) (x : A) (after : List A)
    → Every P (before ++ (x ∷ after)) → P x
every-mid [] x after (every-cons p h) = p
every-mid (b ∷ before) x after (every-cons p h) = every-mid before x after h

-- How one thing is read after those before it, in a list of things.
abbrev pub EachBack : {A : Type 0} → List ℕ → (A → List ℕ) → (List A → ℕ → Got A) → List A → Type 0
EachBack {A} s c f all =
    (before : List A) (x : A) (after : List A) (p q : ℕ) → all ≡ before ++ (x ∷ after) → Spells s p q (c x)
    → f before p ≡ got x q

many_by : {A : Type 0} {s : List ℕ} (c : A → List ℕ) (f : List A → ℕ → Got A) (all : List A) → EachBack s c f all
    → (before xs : List A) {at q : ℕ} → all ≡ before ++ xs → Spells s at q (blocks c xs)
    → many f (length xs) at before ≡ got all q
unfolding many blocks
many_by c f all each before [] e p = rw (spells-end p, e, append-nil before)
many_by c f all each before (x ∷ xs) e p =
    let g = each before x xs _ _ e (spells-left (c x) (blocks c xs) p) in
    let d : all ≡ (before ++ (x ∷ [])) ++ xs = e ∙ sym (append_assoc before (x ∷ []) xs) in
    then-got _ g ∙ many_by c f all each (before ++ (x ∷ [])) xs d (spells-right (c x) (blocks c xs) p)

-- Where each thing is read back, all are.
pub many-back : {A : Type 0} {s : List ℕ} (c : A → List ℕ) (f : List A → ℕ → Got A) (all : List A) → EachBack s c f all
    → {at q : ℕ} → Spells s at q (blocks c all) → many f (length all) at [] ≡ got all q
many-back c f all each p = many_by c f all each [] all refl p
