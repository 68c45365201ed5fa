-- The structs that texts are read from, as the definitions have them. Assumes nothing: definitions.
use Rattle.std.specs.Prelude.{ℕ, List}
use Rattle.term_rules.specs.Nodes.{Node}
use Rattle.text_pieces.specs.declared.nodes.Nodes.{Nodes}
use Rattle.text_pieces.specs.declared.Spelling.{Spelling}
use Rattle.text_pieces.specs.Pieces.{name_text}
use Rattle.text_pieces.specs.Readable.{nodes}

-- The terms that are read.
abbrev pub nodes_of : Nodes → ℕ → Node
nodes_of s = nodes s.records.now s.literals.now s.names.now

-- The name of binding k, as it is spelled.
abbrev pub named : Spelling → ℕ → List ℕ
named s = name_text s.stem.now s.start s.bare
