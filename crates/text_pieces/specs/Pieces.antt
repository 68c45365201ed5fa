-- The small pieces that texts are made of, and capped lengths. Assumes nothing: these are definitions.
use Rattle.std.specs.Prelude.{ℕ, ◌+◌, ◌^◌, min, Bool, true, false, List, [], ◌∷◌, ◌++◌}
use Rattle.text_rules.specs.LetText.{count_text, new_line}

-- a length, cut at more bytes than a buffer can have
abbrev pub capped : ℕ → ℕ
capped n = min (2 ^ 63) n

-- the name of binding k: the stem is prefix and hint
unfoldable pub name_text : List ℕ → ℕ → Bool → ℕ → List ℕ
name_text stem start bare_zero k = stem ++ count_text bare_zero (start + k)

-- what stands before a child: a space, or a new line of n spaces
unfoldable pub gap_text : Bool → ℕ → List ℕ
gap_text true n = new_line n
gap_text false n = 32 ∷ []
