-- What let texts rely on and promise, of the structs that they are written from. Assumes nothing: definitions.
use Rattle.std.specs.Prelude.{ℕ, List, ◌-◌}
use Rattle.text_pieces.specs.declared.nodes.Nodes.{Nodes}
use Rattle.text_pieces.specs.declared.Spelling.{Spelling}
use Rattle.text_pieces.specs.Read.{nodes_of}
use Rattle.text_counts.specs.Met.{AllMet}
use Rattle.text_lines.specs.declared.Bindings.{Bindings}
use Rattle.text_whole.specs.LetPlaced.{LetAnswer, Layable, Lays}

-- The let text of the last of the terms can be written.
abbrev pub LayableOf : Nodes → Spelling → Type 0
LayableOf s c = Layable s.records.now s.literals.now s.names.now c.stem.now s.n c.start

-- These are the bindings of the last of the terms, and their places.
abbrev pub AllMetOf : Nodes → List ℕ → Bindings → Type 0
AllMetOf s ps b = AllMet s.records.now ps b.terms.now b.indents.now s.n b.count

-- The let text of the last of the terms, and its next count; or 13.
abbrev pub LaysOf : Nodes → Spelling → List ℕ → LetAnswer → List ℕ → Type 0
LaysOf s c out a after = Lays (nodes_of s) c.stem.now c.start c.bare (s.n - 1) out a after
