-- `text_lines::lines_length` meets its contract: the lines passed are summed. Assumes nothing.
use mathlib.Core.Path.{◌≡◌}
use lib.ListN.{length}
use Rattle.text_pieces.specs.Pieces.{capped}
use Rattle.text_write.specs.Seen.{view_of}
use Rattle.text_lines.specs.Lines.{lines_to}
use Rattle.text_lines.proofs.lines_length.Given as goal

abbrev pub invariant-loop-k : goal.invariant-loop-k
invariant-loop-k l =
    l.acc
    ≡ capped
    (length (lines_to (view_of l.page 80) l.page.nodes.records.now l.page.wides.now l.bindings.terms.now
    l.bindings.indents.now l.k))
