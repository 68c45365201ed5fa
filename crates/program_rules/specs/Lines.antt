-- The lines of numbers that the program writes: document 01, 'The program'. Assumes nothing: definitions.
use Rattle.std.specs.Prelude.{List, [], ◌∷◌, ◌++◌, ℕ}
use Rattle.decimal.specs.Decimal.{digits}

-- "best ", "variants ", "variant " and "refused ".
abbrev pub best_word : List ℕ
best_word = 98 ∷ 101 ∷ 115 ∷ 116 ∷ 32 ∷ []

abbrev pub variants_word : List ℕ
variants_word = 118 ∷ 97 ∷ 114 ∷ 105 ∷ 97 ∷ 110 ∷ 116 ∷ 115 ∷ 32 ∷ []

abbrev pub variant_word : List ℕ
variant_word = 118 ∷ 97 ∷ 114 ∷ 105 ∷ 97 ∷ 110 ∷ 116 ∷ 32 ∷ []

abbrev pub refused_word : List ℕ
refused_word = 114 ∷ 101 ∷ 102 ∷ 117 ∷ 115 ∷ 101 ∷ 100 ∷ 32 ∷ []

-- A number and what follows it: a space, or a newline where it is the last of its line.
unfoldable pub number_text : ℕ → ℕ → List ℕ
number_text x after = digits x ++ (after ∷ [])

-- Numbers, a space after each; and a line of a word, such numbers, and a last number with a newline.
unfoldable pub spaced : List ℕ → List ℕ
spaced [] = []
spaced (x ∷ xs) = number_text x 32 ++ spaced xs

unfoldable pub line_text : List ℕ → List ℕ → ℕ → List ℕ
line_text word numbers last = (word ++ spaced numbers) ++ number_text last 10

-- "`best C N P`": the cost, the terms in the store after the call, the passes.
unfoldable pub best_line : ℕ → ℕ → ℕ → List ℕ
best_line c n p = ((best_word ++ number_text c 32) ++ number_text n 32) ++ number_text p 10

-- "`variants K P`": the kept number, the passes.
unfoldable pub variants_line : ℕ → ℕ → List ℕ
variants_line k p = (variants_word ++ number_text k 32) ++ number_text p 10

-- "`variant I C N`": I from 1, the cost, the terms in the store after the call.
unfoldable pub variant_line : ℕ → ℕ → ℕ → List ℕ
variant_line i c n = ((variant_word ++ number_text i 32) ++ number_text c 32) ++ number_text n 10

-- "A refusal prints `refused K` with its number."
unfoldable pub refused_line : ℕ → List ℕ
refused_line k = refused_word ++ number_text k 10
