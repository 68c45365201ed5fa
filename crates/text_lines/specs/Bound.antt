-- Lines and whole texts of the structs that they are written from. Assumes nothing: definitions.
use Rattle.std.specs.Prelude.{ℕ, List}
use Rattle.text_write.specs.declared.page.Page.{Page}
use Rattle.text_write.specs.Seen.{view_of}
use Rattle.text_lines.specs.declared.Bindings.{Bindings}
use Rattle.text_lines.specs.Lines.{line_text, lines_to, Bundle}
use Rattle.text_lines.specs.Whole.{whole_text}

-- The line of binding k: term t, met at indent i.
abbrev pub line_of : Page → ℕ → ℕ → ℕ → List ℕ
line_of p i t k = line_text (view_of p 80) p.nodes.records.now p.wides.now i t k

-- The lines of the bindings.
abbrev pub lines_of : Page → Bindings → List ℕ
lines_of p b =
    lines_to (view_of p 80) p.nodes.records.now p.wides.now b.terms.now b.indents.now b.count

-- The whole let text.
abbrev pub whole_of : Page → Bindings → List ℕ
whole_of p b =
    whole_text (view_of p 80) p.nodes.records.now p.wides.now b.terms.now b.indents.now p.nodes.n b.count

-- The bindings are of the first n terms, and their names are counted from start.
abbrev pub BundleOf : Bindings → ℕ → ℕ → Type 0
BundleOf b n start = Bundle b.terms.now b.indents.now n b.count start
