-- What a call for a text tells in numbers: a length that the lent buffer has, or a refusal of the table below zero.
-- Assumes nothing.
use mathlib.Core.Path.{◌≡◌, refl, sym, ap, ◌∙◌}
use mathlib.Core.Bool.{Bool, true, false}
use mathlib.Core.List.{List}
use mathlib.Core.Logic.{◌⊎◌, inl, inr}
use Prim.Native.Nat.{ℕ, ◌*◌, ◌≤◌, ◌<◌, ◌^◌}
use native.Mathlib.Omega.{arith}
use Prim.{Dec, yes, no}
use native.Mathlib.Decide.{dec_lt}
use lib.IntN.{ℤ}
use lib.ListN.{length}
use Rattle.refusal.specs.declared.Refusal.{Refusal}
use Rattle.refusal.specs.declared.Refusal.TheVariants.{BadSize, BadName, NoRoom, BadTerm, BadStore}
use Rattle.refusal.specs.Numbers.{refusal_no}
use Rattle.name.specs.Name.{valid}
use Rattle.term_rules.specs.Lent.{Store}
use Rattle.term_rules.specs.WellFormed.{well_formed}
use Rattle.text_rules.specs.PlainText.{plain_text}
use Rattle.text_rules.specs.LetText.{Naming, let_text}
use Rattle.text_whole.specs.Placed.{Answer, written, refusal, Told, told, answer_of}
use Rattle.text.specs.Told.{plain_told}
use Rattle.text_whole.specs.LetPlaced as lets
use Rattle.text_whole.specs.LetPlaced.{LetAnswer, let_answer_of, valid_prefix}
use Rattle.text.specs.LetTold.{let_told}
use Rattle.std.specs.Prelude.{Result}
use Rattle.text_whole.specs.declared.LetText.{LetText}
use Rattle.text.proofs.Promises.{promises}
use Rattle.c_told.specs.Texts.{coded_text, let_coded, TextFits, LetFits}
use Rattle.needlevale_c.specs.Texts.{Writes, WritesLets}
use Rattle.c_told.specs.declared.texts.LetLength.{LetLength}

-- ---- plain text
-- a length of a text that is there, and 0 otherwise
long : Answer → ℕ
long (written n) = n
long (refusal k) = 0

-- A text that fits has a length, and a refusal is one of the table.
abbrev pub PlainKnown : Answer → ℕ → Type 0
PlainKnown a m =
    ((n : ℕ) × ((n ≤ m) × (a ≡ written n))) ⊎ ((r : Refusal) × (a ≡ refusal (refusal_no r)))

module _ (s : Store) (t : ℕ) (out : List ℕ) where
  abbrev answer : Told Answer → Answer
  answer x = x.answer

  pub plain_known : PlainKnown (plain_told s t out).answer (length out)
  plain_known = by (well_formed s) refl (dec_lt t s.terms) (dec_lt (length out) (length (plain_text s t)))
    where
      by :
          (b : Bool) →
          well_formed s ≡ b →
          Dec (t < s.terms) →
          Dec (length out < length (plain_text s t)) →
          PlainKnown (plain_told s t out).answer (length out)
      by false e d f = inr (BadStore, ap answer (promises.plain_store s t out e))
      by true e (no n) f = inr (BadTerm, ap answer (promises.plain_term s t out e (omega arith)))
      by true e (yes l) (yes g) =
          inr (NoRoom, ap answer (promises.plain_no_room s t out (record { formed = e; known = l }) g))
      by true e (yes l) (no g) =
          let f : length (plain_text s t) ≤ length out = omega arith in
          inl (_, (f, ap answer (promises.plain_written s t out (record { formed = e; known = l }) f)))

  module _ (after : List ℕ) (r : Result ℕ Refusal) (e : told (answer_of r) after ≡ plain_told s t out) where
    pub plain_fits : length out * 1 < 2 ^ 63 → TextFits r
    unfolding long
    plain_fits l n h = by plain_known
      where
        same : (plain_told s t out).answer ≡ written n
        same = sym (ap answer e) ∙ ap answer_of h

        by : PlainKnown (plain_told s t out).answer (length out) → n < 2 ^ 63
        by (inl k) =
            let m : n ≡ k.0 = ap long (sym same ∙ k.1.1) in
            omega (arith, m, k.1.0, l)
        by (inr k) =
            let m : n ≡ 0 = ap long (sym same ∙ k.1) in
            omega (arith, m)

    pub plain-writes : (z : ℤ) → z ≡ coded_text (answer_of r) → Writes (plain_told s t out) z after
    plain-writes z h = record {
      number = h ∙ ap (λ (x : Told Answer). coded_text x.answer) e;
      bytes = ap (λ (x : Told Answer). x.out) e;
    }

-- ---- let text
let-long : LetAnswer → ℕ
let-long (lets.written n next) = n
let-long (lets.refusal k) = 0

abbrev pub LetKnown : LetAnswer → ℕ → Type 0
LetKnown a m =
    ((n : ℕ) × ((n ≤ m) × ((next : ℕ) × (a ≡ lets.written n next)))) ⊎
    ((r : Refusal) × (a ≡ lets.refusal (refusal_no r)))

module _ (s : Store) (nm : Naming) (t : ℕ) (out : List ℕ) where
  abbrev let-answer : Told LetAnswer → LetAnswer
  let-answer x = x.answer

  abbrev Known : Type 0
  Known = LetKnown (let_told s nm t out).answer (length out)

  named-known :
      well_formed s ≡ true →
      t < s.terms →
      (b c : Bool) →
      valid_prefix nm.prefix ≡ b →
      valid nm.hint ≡ c →
      Dec (4294966271 < nm.start) →
      Dec (length out < length (let_text s nm t)) →
      Known
  named-known e l false c p h d f =
      inr (BadName, ap let-answer (promises.let_prefix s nm t out (record { formed = e; known = l }) p))
  named-known e l true false p h d f =
      inr (BadName, ap let-answer (promises.let_hint s nm t out (record { formed = e; known = l }) p h))
  named-known e l true true p h (yes g) f =
      inr (BadSize, ap let-answer (promises.let_start s nm t out (record { formed = e; known = l }) p h g))
  named-known e l true true p h (no g) (yes f) =
      inr (
        NoRoom,
        ap let-answer
            (promises.let_no_room s nm t out (record { formed = e; known = l })
            (record { prefix = p; hint = h; start = omega arith }) f),
      )
  named-known e l true true p h (no g) (no f) =
      let k : length (let_text s nm t) ≤ length out = omega arith in
      inl (
        _,
        (
          k,
          (
            _,
            ap let-answer
                (promises.let_written s nm t out (record { formed = e; known = l })
                (record { prefix = p; hint = h; start = omega arith }) k),
          ),
        ),
      )

  pub let-known : Known
  let-known = by (well_formed s) refl (dec_lt t s.terms)
    where
      by : (b : Bool) → well_formed s ≡ b → Dec (t < s.terms) → Known
      by false e d = inr (BadStore, ap let-answer (promises.let_store s nm t out e))
      by true e (no n) = inr (BadTerm, ap let-answer (promises.let_term s nm t out e (omega arith)))
      by true e (yes l) =
          named-known e l (valid_prefix nm.prefix) (valid nm.hint) refl refl (dec_lt 4294966271 nm.start)
          (dec_lt (length out) (length (let_text s nm t)))

  module _ (after : List ℕ) (r : Result LetText Refusal) (e : told (let_answer_of r) after ≡ let_told s nm t out) where
    pub let-fits : length out * 1 < 2 ^ 63 → LetFits r
    unfolding let-long
    let-fits l text h = by let-known
      where
        same : (let_told s nm t out).answer ≡ lets.written text.length text.next
        same = sym (ap let-answer e) ∙ ap let_answer_of h

        by : Known → text.length < 2 ^ 63
        by (inl k) =
            let m : text.length ≡ k.0 = ap let-long (sym same ∙ k.1.1.1) in
            omega (arith, m, k.1.0, l)
        by (inr k) =
            let m : text.length ≡ 0 = ap let-long (sym same ∙ k.1) in
            omega (arith, m)

    pub let-writes : (z : LetLength) → z ≡ let_coded (let_answer_of r) → WritesLets (let_told s nm t out) z after
    let-writes z h = record {
      numbers = h ∙ ap (λ (x : Told LetAnswer). let_coded x.answer) e;
      bytes = ap (λ (x : Told LetAnswer). x.out) e;
    }
