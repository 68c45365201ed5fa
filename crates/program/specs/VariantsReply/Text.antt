-- The whole text of an answer of variants as it is written, from its lists. Assumes nothing: a definition.
use Rattle.std.specs.Prelude.{ℕ, List, ◌++◌}
use Rattle.term_rules.specs.Nodes.{Node}
use Rattle.program_rules.specs.Lines.{variants_line}
use Rattle.program.specs.Replies.{reply_texts}

unfoldable pub lines_text : (ℕ → Node) → ℕ → List ℕ → List ℕ → ℕ → ℕ → List ℕ
lines_text node n costs terms k p = variants_line k p ++ reply_texts node n costs terms k
