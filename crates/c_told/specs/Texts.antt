-- How a text's length is told, with the next unused count of a let text. Assumes nothing: definitions.
use Rattle.std.specs.Prelude.{◌≡◌, ℕ, ◌<◌, ◌^◌, ℤ, pos, neg_ℤ, Result, Ok}
use Rattle.refusal.specs.declared.Refusal.{Refusal}
use Rattle.text_whole.specs.Placed as plain
use Rattle.text_whole.specs.LetPlaced as lets
use Rattle.text_whole.specs.declared.LetText.{LetText}
use Rattle.c_told.specs.declared.texts.LetLength.{LetLength}

-- The length of a plain text, or the number of a refusal below zero.
abbrev pub coded_text : plain.Answer → ℤ
coded_text (plain.written n) = pos n
coded_text (plain.refusal k) = neg_ℤ (pos k)

-- The length of a let text and the next unused count; or the number of a refusal below zero, and 0.
abbrev pub let_coded : lets.LetAnswer → LetLength
let_coded (lets.written n next) = record { length = pos n; next = next }
let_coded (lets.refusal k) = record { length = neg_ℤ (pos k); next = 0 }

-- A length that is told is one of a lent buffer, so it is a number of 63 bits.
abbrev pub TextFits : Result ℕ Refusal → Type 0
TextFits r = (n : ℕ) → r ≡ Ok n → n < 2 ^ 63

abbrev pub LetFits : Result LetText Refusal → Type 0
LetFits r = (text : LetText) → r ≡ Ok text → text.length < 2 ^ 63
