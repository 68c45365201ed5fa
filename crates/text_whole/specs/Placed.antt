-- A text placed in the lent part, or NoRoom: document 01, 'Terms'. Assumes nothing: these are definitions.
use Rattle.std.specs.Prelude.{ℕ, ◌≡◌, true, false, List, ◌++◌, length, drop, get_or, leb, Result, Ok, Err}
use Rattle.refusal.specs.declared.Refusal.{Refusal}
use Rattle.refusal.specs.Numbers.{refusal_no}
use Rattle.term_rules.specs.Lent.{Store}
use Rattle.text_rules.specs.PlainText.{plain_text}

-- the length of the text; or a refusal's number
pub data Answer : Type 0 where
  written : ℕ → Answer
  refusal : ℕ → Answer

abbrev pub answer_of : Result ℕ Refusal → Answer
answer_of (Ok n) = written n
answer_of (Err r) = refusal (refusal_no r)

-- an answer, and what the lent part holds then
pub record Told (A : Type 0) : Type 0 where
  pub answer : A
  pub out : List ℕ

abbrev pub told : {A : Type 0} → A → List ℕ → Told A
told a o = record { answer = a; out = o }

-- "Text is written [..] from the start of the lent part; bytes past the returned length stay." NoRoom where it does
-- not fit: "Nothing lent is changed."
unfoldable pub placed : {A : Type 0} → List ℕ → A → A → List ℕ → Told A
placed text done no_room out =
    elim (leb (length text) (length out)) [
      | true ↦ told done (text ++ drop (length text) out)
      | false ↦ told no_room out
    ]

-- a table of zeros
abbrev pub Zeros : List ℕ → Type 0
Zeros xs = (k : ℕ) → get_or xs k 0 ≡ 0

-- the plain text of term t, or 13
abbrev pub plain_placed : Store → ℕ → List ℕ → Told Answer
plain_placed s t out = placed (plain_text s t) (written (length (plain_text s t))) (refusal 13) out
