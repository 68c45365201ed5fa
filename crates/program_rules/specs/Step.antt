-- What a call that writes a piece of text at a place of a lent part leaves behind. Assumes nothing: a definition.
use Rattle.std.specs.Prelude.{ℕ, ◌+◌, ◌≡◌, List, ◌++◌, length, take, drop}

-- The text e stands from place p on, all other bytes stay, and r is the place after it.
pub record Step (e : List ℕ) (p r : ℕ) (before after : List ℕ) : Type 0 where
  pub place : r ≡ p + length e
  pub bytes : after ≡ take p before ++ (e ++ drop (p + length e) before)
