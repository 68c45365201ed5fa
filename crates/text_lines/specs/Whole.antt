-- The whole let text as it is written. Assumes nothing: these are definitions.
use Rattle.std.specs.Prelude.{List, ◌∷◌, ◌++◌, ℕ, ◌-◌}
use Rattle.text_write.specs.Piece.{View, body}
use Rattle.text_lines.specs.Lines.{lines_to}

-- the lines of m bindings, a newline, and the last of the first n terms
unfoldable pub whole_text : View → List ℕ → List ℕ → List ℕ → List ℕ → ℕ → ℕ → List ℕ
whole_text v rs ws terms indents n m = lines_to v rs ws terms indents m ++ (10 ∷ body v 0 0 (n - 1))
