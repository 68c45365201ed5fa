-- Plain text: document 01, 'Terms'. Assumes nothing: these are definitions.
use Rattle.std.specs.Prelude.{ℕ, List}
use Rattle.term_rules.specs.Lent.{Store}
use Rattle.term_rules.specs.Nodes.{Node, node_at}
use Rattle.text_rules.specs.Forms.{by_text, line}

-- on one line, every child by its own text
unfoldable pub plain_line : (ℕ → Node) → ℕ → List ℕ
plain_line node t = line node (λ (k : ℕ). by_text) t

-- the plain text of term t of the store
unfoldable pub plain_text : Store → ℕ → List ℕ
plain_text s t = plain_line (node_at s) t
