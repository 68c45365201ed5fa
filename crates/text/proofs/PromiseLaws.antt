-- The laws that the promises of the texts stand on. Assumes nothing.
use mathlib.Core.Path.{◌≡◌, refl, ap, ◌∙◌}
use mathlib.Core.Bool.{Bool, true, false}
use mathlib.Core.List.{List, [], ◌∷◌, ◌++◌}
use Prim.{Dec, yes, no}
use Prim.Native.Nat.{ℕ, zero, suc, ◌+◌, ◌*◌, ◌-◌, ◌/◌, ◌%◌, ◌≤◌, ◌<◌}
use native.Mathlib.Omega.{arith}
use native.Mathlib.Decide.{dec_lt}
use lib.ListN.{length, get_or, drop, length-append, length-drop}
use lib.IntN.{ℤ, pos, negsuc}
use Rattle.decimal.specs.Decimal.{digits, literal_text}
use Rattle.decimal.proofs.DigitLaws.{digits-one, digits_more}
use Rattle.refusal.specs.Numbers.{refusal_no}
use Rattle.refusal.proofs.NumberLaws.{number-once}
use Rattle.name.specs.Name.{valid}
use Rattle.term_rules.specs.Lent.{Store}
use Rattle.term_rules.specs.WellFormed.{well_formed}
use Rattle.term_rules.specs.Nodes.{literal, variable, node_at}
use Rattle.text_rules.specs.Forms.{form, by_text, child_text, line, line_in}
use Rattle.text_rules.specs.PlainText.{plain_line, plain_text}
use Rattle.text_rules.specs.LetText.{Naming, let_text, next_count}
use Rattle.std.specs.Prelude.{Result, Ok, Err}
use Rattle.refusal.specs.declared.Refusal.{Refusal}
use Rattle.text_whole.specs.declared.LetText.{LetText}
use Rattle.text_whole.specs.Placed.{Told, told, placed, Answer, written, refusal, answer_of}
use Rattle.text.specs.Told.{plain_told}
use Rattle.text_whole.specs.LetPlaced.{LetAnswer, let_answer_of, valid_prefix}
use Rattle.text.specs.LetTold.{let_told}
use Rattle.text_whole.specs.LetPlaced.{written as lettered, refusal as let_refusal}
use Rattle.text.specs.Promises.{value_from, value_of}
use Rattle.text_whole.proofs.PlacedLaws.{placed-fits, placed-refuses}
use Rattle.text.proofs.ToldLaws.{plain-store-refuses, plain-term-refuses, plain-placed}
use Rattle.text.proofs.LetToldLaws.{
  let-store-refuses,
  let-term-refuses,
  let-prefix-refuses,
  let-hint-refuses,
  let-start-refuses,
  let-placed,
}

-- ---- what is told keeps the length of the lent part
module _ {A : Type 0} (text : List ℕ) (done no_room : A) (out : List ℕ) where
  placed-keeps : length (placed text done no_room out).out ≡ length out
  placed-keeps = by (dec_lt (length out) (length text))
    where
      by : Dec (length out < length text) → length (placed text done no_room out).out ≡ length out
      by (yes l) = ap (λ (x : Told A). length x.out) (placed-refuses text done no_room out l)
      by (no l) =
          let f : length text ≤ length out = omega arith in
          ap (λ (x : Told A). length x.out) (placed-fits text done no_room out f)
          ∙ (length-append text (drop (length text) out)
          ∙ omega (arith, length-drop (length text) out))

module _ (s : Store) (t : ℕ) (out : List ℕ) where
  abbrev long : Told Answer → ℕ
  long x = length x.out

  pub plain-keeps : length (plain_told s t out).out ≡ length out
  plain-keeps = by (well_formed s) refl (dec_lt t s.terms)
    where
      by : (b : Bool) → well_formed s ≡ b → Dec (t < s.terms) → length (plain_told s t out).out ≡ length out
      by false e d = ap long (plain-store-refuses s t out e)
      by true e (no n) = ap long (plain-term-refuses s t out e (omega arith))
      by true e (yes l) =
          ap long (plain-placed s t out e l)
          ∙ placed-keeps (plain_text s t) (written (length (plain_text s t))) (refusal 13) out

module _ (s : Store) (nm : Naming) (t : ℕ) (out : List ℕ) where
  abbrev let-long : Told LetAnswer → ℕ
  let-long x = length x.out

  named-keeps :
      well_formed s ≡ true →
      t < s.terms →
      (b c : Bool) →
      valid_prefix nm.prefix ≡ b →
      valid nm.hint ≡ c →
      Dec (4294966271 < nm.start) →
      length (let_told s nm t out).out ≡ length out
  named-keeps e l false c p h d = ap let-long (let-prefix-refuses s nm t out e l p)
  named-keeps e l true false p h d = ap let-long (let-hint-refuses s nm t out e l p h)
  named-keeps e l true true p h (yes g) = ap let-long (let-start-refuses s nm t out e l p h g)
  named-keeps e l true true p h (no g) =
      ap let-long (let-placed s nm t out e l p h (omega arith))
      ∙ placed-keeps (let_text s nm t) (lettered (length (let_text s nm t)) (next_count s nm t)) (let_refusal 13) out

  pub let-keeps : length (let_told s nm t out).out ≡ length out
  let-keeps = by (well_formed s) refl (dec_lt t s.terms)
    where
      by : (b : Bool) → well_formed s ≡ b → Dec (t < s.terms) → length (let_told s nm t out).out ≡ length out
      by false e d = ap let-long (let-store-refuses s nm t out e)
      by true e (no n) = ap let-long (let-term-refuses s nm t out e (omega arith))
      by true e (yes l) =
          named-keeps e l (valid_prefix nm.prefix) (valid nm.hint) refl refl (dec_lt 4294966271 nm.start)

-- ---- literals and variables
module _ (s : Store) (t : ℕ) where
  plain_form :
      plain_text s t
      ≡ form (32 ∷ []) (child_text (λ (k : ℕ). by_text) (line_in (node_at s) (λ (k : ℕ). by_text) t)) (node_at s t)
  unfolding plain_text plain_line line line_in
  plain_form = refl

  pub plain-literal : (z : ℤ) → node_at s t ≡ literal z → plain_text s t ≡ literal_text z
  unfolding form
  plain-literal z e =
      plain_form ∙ ap (form (32 ∷ []) (child_text (λ (k : ℕ). by_text) (line_in (node_at s) (λ (k : ℕ). by_text) t))) e

  pub plain-variable : (name : List ℕ) → node_at s t ≡ variable name → plain_text s t ≡ name
  unfolding form
  plain-variable name e =
      plain_form ∙ ap (form (32 ∷ []) (child_text (λ (k : ℕ). by_text) (line_in (node_at s) (λ (k : ℕ). by_text) t))) e

pub literal-positive : (n : ℕ) → literal_text (pos n) ≡ digits n
unfolding literal_text
literal-positive n = refl

pub literal-negative : (n : ℕ) → literal_text (negsuc n) ≡ 45 ∷ digits (suc n)
unfolding literal_text
literal-negative n = refl

value-append : (n : ℕ) (bs : List ℕ) (b : ℕ) → value_from n (bs ++ (b ∷ [])) ≡ value_from n bs * 10 + (b - 48)
unfolding value_from
value-append n [] b = refl
value-append n (c ∷ bs) b = value-append (n * 10 + (c - 48)) bs b

value-one : (b : ℕ) → value_from 0 (b ∷ []) ≡ b - 48
unfolding value_from
value-one b = omega arith

digits-value-in : (f x : ℕ) → x < f → value_of (digits x) ≡ x
digits-value-in zero x l = let z : ⊥ = omega arith in absurd z
digits-value-in (suc f) x l = by (digits-value-in f) (dec_lt x 10)
  where
    by : ((y : ℕ) → y < f → value_of (digits y) ≡ y) → Dec (x < 10) → value_of (digits x) ≡ x
    by ih (yes p) = ap value_of (digits-one x p) ∙ (value-one (x + 48) ∙ omega arith)
    by ih (no p) =
        let h : value_of (digits (x / 10)) ≡ x / 10 = ih (x / 10) (omega arith) in
        ap value_of (digits_more x (omega arith))
        ∙ (value-append 0 (digits (x / 10)) (x % 10 + 48) ∙ omega (arith, h))

pub digits_value : (x : ℕ) → value_of (digits x) ≡ x
digits_value x = digits-value-in (suc x) x (omega arith)

lead-append : (xs ys : List ℕ) → 48 < get_or xs 0 0 → 48 < get_or (xs ++ ys) 0 0
lead-append [] ys l = let z : ⊥ = omega arith in absurd z
lead-append (x ∷ xs) ys l = l

digits-lead-in : (f x : ℕ) → x < f → 0 < x → 48 < get_or (digits x) 0 0
digits-lead-in zero x l q = let z : ⊥ = omega arith in absurd z
digits-lead-in (suc f) x l q = by (digits-lead-in f) (dec_lt x 10)
  where
    by : ((y : ℕ) → y < f → 0 < y → 48 < get_or (digits y) 0 0) → Dec (x < 10) → 48 < get_or (digits x) 0 0
    by ih (yes p) = rw (digits-one x p) (omega arith)
    by ih (no p) =
        rw (digits_more x (omega arith))
        (lead-append (digits (x / 10)) ((x % 10 + 48) ∷ []) (ih (x / 10) (omega arith) (omega arith)))

pub digits-lead : (x : ℕ) → 0 < x → 48 < get_or (digits x) 0 0
digits-lead x q = digits-lead-in (suc x) x (omega arith) q

-- ---- what is told the same is the same
answer-once : (r q : Result ℕ Refusal) → answer_of r ≡ answer_of q → r ≡ q
answer-once (Ok m) (Ok n) e = cc
answer-once (Ok m) (Err q) e = cc
answer-once (Err r) (Ok n) e = cc
answer-once (Err r) (Err q) e =
    let d : refusal_no r ≡ refusal_no q = cc in ap Err (number-once r q d)

let-answer-once : (r q : Result LetText Refusal) → let_answer_of r ≡ let_answer_of q → r ≡ q
let-answer-once (Ok m) (Ok n) e =
    let p : m.length ≡ n.length = cc in
    let q : m.next ≡ n.next = cc in
    let d : m ≡ n = rw (p, q) in
    ap Ok d
let-answer-once (Ok m) (Err q) e = cc
let-answer-once (Err r) (Ok n) e = cc
let-answer-once (Err r) (Err q) e =
    let d : refusal_no r ≡ refusal_no q = cc in ap Err (number-once r q d)

pub plain-determined :
    (r q : Result ℕ Refusal) (o p : List ℕ) → told (answer_of r) o ≡ told (answer_of q) p → (r ≡ q) × (o ≡ p)
plain-determined r q o p e =
    (answer-once r q (ap (λ (x : Told Answer). x.answer) e), ap (λ (x : Told Answer). x.out) e)

pub let-determined :
    (r q : Result LetText Refusal) (o p : List ℕ) → told (let_answer_of r) o ≡ told (let_answer_of q) p → (r ≡ q) × (o ≡ p)
let-determined r q o p e =
    (let-answer-once r q (ap (λ (x : Told LetAnswer). x.answer) e), ap (λ (x : Told LetAnswer). x.out) e)
