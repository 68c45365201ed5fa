-- The laws of the table of inline lengths. Assumes nothing.
use mathlib.Core.Path.{◌≡◌, refl}
use mathlib.Core.Bool.{Bool}
use mathlib.Core.List.{List}
use Prim.Native.Nat.{ℕ, ◌-◌, ◌<◌}
use native.Mathlib.Omega.{arith}
use lib.ListN.{get_or}
use borrow.Author.Tests.{lt-ltb, le-ltb}
use Rattle.text_rules.specs.Forms.{by_name, by_text, shown}
use Rattle.text_pieces.specs.Pieces.{name_text}
use Rattle.text_write.specs.Widths.{called_by}

module _ (ps stem : List ℕ) (start : ℕ) (bare : Bool) (k : ℕ) where
  pub called_by-named :
      0 < get_or ps k 0 → called_by ps stem start bare k ≡ by_name (name_text stem start bare (get_or ps k 0 - 1))
  unfolding called_by
  called_by-named l = rw (lt-ltb 0 (get_or ps k 0) l, called_by)

  pub called_by-text : get_or ps k 0 ≡ 0 → called_by ps stem start bare k ≡ by_text
  unfolding called_by
  called_by-text e = rw (le-ltb 0 (get_or ps k 0) (omega arith), called_by)

pub shown-of-name : (n text : List ℕ) → shown (by_name n) text ≡ n
unfolding shown
shown-of-name n text = refl

pub shown-of-text : (text : List ℕ) → shown by_text text ≡ text
unfolding shown
shown-of-text text = refl
