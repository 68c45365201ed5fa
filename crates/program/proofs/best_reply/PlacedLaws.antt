-- What an answer tells of the text in its place. Assumes nothing.
use mathlib.Core.Path.{◌≡◌, refl, sym, ap}
use mathlib.Core.Bool.{Bool, true, false, true≢false}
use mathlib.Core.List.{List, [], ◌∷◌, ◌++◌}
use Prim.Native.Nat.{ℕ, ◌<◌, ◌≤◌}
use native.Mathlib.Omega.{arith}
use lib.ListN.{length, drop}
use lib.Dec.{leb}
use borrow.Author.Tests.{leb-true, leb-false}
use Rattle.decimal.specs.Written.{Wrote}
use Rattle.term_rules.specs.Lent.{Store}
use Rattle.name.specs.Name.{allowed, all_allowed, valid}
use Rattle.text_rules.specs.LetText.{let_text, next_count}
use Rattle.text_whole.specs.Placed.{Answer, written, refusal, Told, told, placed, plain_placed}
use Rattle.text_whole.specs.LetPlaced.{LetAnswer, written as let_written, refusal as let_refusal, valid_prefix, let_placed}
use Rattle.program_rules.specs.Reply.{let_naming}
use Rattle.program.specs.BestReply.Text.{best_text, best_placed, uncounted}

-- an answer by any reading of it
pub placed_by :
    {A B : Type 0} (f : A → B) (text : List ℕ) (done none : A) (out after : List ℕ) (a : A) →
    told a after ≡ placed text done none out →
    told (f a) after ≡ placed text (f done) (f none) out
unfolding placed
placed_by {A} {B} f text done none out after a e = by (leb (length text) (length out)) e
  where
    by :
        (b : Bool) →
        told a after
        ≡ elim b [ true ↦ told done (text ++ drop (length text) out) | false ↦ told none out ] →
        told (f a) after
        ≡ elim b [ true ↦ told (f done) (text ++ drop (length text) out) | false ↦ told (f none) out ]
    by true h = ap (λ (x : Told A). told (f x.answer) x.out) h
    by false h = ap (λ (x : Told A). told (f x.answer) x.out) h

length_in : Answer → ℕ
length_in (written n) = n
length_in (refusal k) = 0

is_written : Answer → ℕ
is_written (written n) = 1
is_written (refusal k) = 0

-- a length tells that the text fits and stands
pub placed-written :
    (text out after : List ℕ) (n : ℕ) →
    told (written n) after ≡ placed text (written (length text)) (refusal 13) out →
    (length text ≤ length out) × Wrote text n out after
unfolding placed length_in is_written
placed-written text out after n e = by (leb (length text) (length out)) refl e
  where
    by :
        (b : Bool) →
        leb (length text) (length out) ≡ b →
        told (written n) after
        ≡ elim b
        [ true ↦ told (written (length text)) (text ++ drop (length text) out) | false ↦ told (refusal 13) out ] →
        (length text ≤ length out) × Wrote text n out after
    by true t h = (
      leb-true (length text) (length out) t,
      record { long = ap (λ (x : Told Answer). length_in x.answer) h; bytes = ap (λ (x : Told Answer). x.out) h },
    )
    by false t h =
        let z : ◌≡◌ {A = ℕ} 1 0 = ap (λ (x : Told Answer). is_written x.answer) h in
        let n : ⊥ = omega (arith, z) in
        absurd n

number_in : Answer → ℕ
number_in (written n) = n
number_in (refusal k) = k

-- a refusal tells that it does not fit and that nothing changed, and it is NoRoom
pub placed-refused :
    (text out after : List ℕ) (k : ℕ) →
    told (refusal k) after ≡ placed text (written (length text)) (refusal 13) out →
    (length out < length text) × ((after ≡ out) × (k ≡ 13))
unfolding placed is_written number_in
placed-refused text out after k e = by (leb (length text) (length out)) refl e
  where
    by :
        (b : Bool) →
        leb (length text) (length out) ≡ b →
        told (refusal k) after
        ≡ elim b
        [ true ↦ told (written (length text)) (text ++ drop (length text) out) | false ↦ told (refusal 13) out ] →
        (length out < length text) × ((after ≡ out) × (k ≡ 13))
    by true t h =
        let z : ◌≡◌ {A = ℕ} 0 1 = ap (λ (x : Told Answer). is_written x.answer) h in
        let n : ⊥ = omega (arith, z) in
        absurd n
    by false t h = (
      leb-false (length text) (length out) t,
      (ap (λ (x : Told Answer). x.out) h, ap (λ (x : Told Answer). number_in x.answer) h),
    )

module _ (s : Store) (t : ℕ) (out after : List ℕ) where
  pub plain-case :
      (plain : Bool) (a : Answer) →
      plain ≡ true →
      told a after ≡ plain_placed s t out →
      told a after ≡ best_placed plain s t out
  unfolding best_text
  plain-case true a e h = h
  plain-case false a e h = absurd (true≢false (sym e))

  pub let-case :
      (plain : Bool) (a : LetAnswer) →
      plain ≡ false →
      told a after ≡ let_placed s let_naming t out →
      told (uncounted a) after ≡ best_placed plain s t out
  unfolding best_text
  let-case true a e h = absurd (true≢false e)
  let-case false a e h =
      placed_by uncounted (let_text s let_naming t)
      (let_written (length (let_text s let_naming t)) (next_count s let_naming t)) (let_refusal 13) out after a h

-- "no prefix, hint `t`" are allowed.
pub no-prefix : valid_prefix [] ≡ true
unfolding valid_prefix all_allowed
no-prefix = refl

pub hint-t : valid (116 ∷ []) ≡ true
unfolding valid all_allowed allowed
hint-t = refl
