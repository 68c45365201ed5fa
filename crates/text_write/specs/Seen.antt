-- What a text is written from, as the definitions have it. Assumes nothing: definitions.
use Rattle.std.specs.Prelude.{ℕ, List}
use Rattle.text_rules.specs.Forms.{Called}
use Rattle.text_pieces.specs.declared.nodes.Nodes.{Nodes}
use Rattle.text_pieces.specs.declared.Spelling.{Spelling}
use Rattle.text_write.specs.declared.page.Page.{Page}
use Rattle.text_write.specs.Piece.{View, view}
use Rattle.text_write.specs.Widths.{called_by, Tables}

-- What the writer goes by, with the width above which an application breaks.
abbrev pub view_of : Page → ℕ → View
view_of p limit =
    view p.nodes.records.now p.nodes.literals.now p.nodes.names.now p.places.now p.wides.now p.spelling.stem.now
    p.spelling.start p.spelling.bare limit

-- How a term is shown by the table of places.
abbrev pub called_of : List ℕ → Spelling → ℕ → Called
called_of ps s = called_by ps s.stem.now s.start s.bare

-- What the pass over the inline lengths relies on.
abbrev pub TablesOf : Nodes → List ℕ → List ℕ → Spelling → Type 0
TablesOf s ps ws c = Tables s.records.now s.literals.now s.names.now ps ws s.n c.start
