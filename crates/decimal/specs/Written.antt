-- What a call that writes a piece of text leaves behind. Assumes nothing: a definition.
use Rattle.std.specs.Prelude.{ℕ, ◌≡◌, List, ◌++◌, length, drop}

-- the text d stands at the start of the lent part, the bytes past it stay, and its length r is returned
pub record Wrote (d : List ℕ) (r : ℕ) (before after : List ℕ) : Type 0 where
  pub long : r ≡ length d
  pub bytes : after ≡ d ++ drop (length d) before
