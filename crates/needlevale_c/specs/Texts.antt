-- What a call for a text leaves: the numbers, and the lent buffer. Assumes nothing: definitions.
use Rattle.std.specs.Prelude.{◌≡◌, List, ℕ, ℤ}
use Rattle.text_whole.specs.Placed as plain
use Rattle.text_whole.specs.Placed.{Told}
use Rattle.text_whole.specs.LetPlaced as lets
use Rattle.c_told.specs.Texts.{coded_text, let_coded}
use Rattle.c_told.specs.declared.texts.LetLength.{LetLength}

pub record Writes (wanted : Told plain.Answer) (z : ℤ) (after : List ℕ) : Type 0 where
  pub number : z ≡ coded_text wanted.answer
  pub bytes : after ≡ wanted.out

pub record WritesLets (wanted : Told lets.LetAnswer) (z : LetLength) (after : List ℕ) : Type 0 where
  pub numbers : z ≡ let_coded wanted.answer
  pub bytes : after ≡ wanted.out
