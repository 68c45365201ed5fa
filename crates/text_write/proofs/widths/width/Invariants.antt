-- `widths::width` meets its contract: the head, and each child after a space. Assumes nothing.
use mathlib.Core.Path.{◌≡◌}
use mathlib.Core.List.{[], ◌∷◌}
use Rattle.text_rules.specs.Forms.{child_text, line}
use Rattle.term_rules.specs.Lent.{kids_at}
use Rattle.text_pieces.specs.Readable.{head_text}
use Rattle.text_pieces.specs.Read.{nodes_of}
use Rattle.text_write.proofs.MeasuringLaws.{Measuring}
use Rattle.text_write.specs.Seen.{called_of}
use Rattle.text_write.proofs.widths.width.Given as goal

abbrev pub invariant-loop-k : goal.invariant-loop-k
invariant-loop-k l = (l.ks ≡ kids_at l.nodes.records.now l.t)
    × Measuring (head_text (nodes_of l.nodes l.t)) (32 ∷ [])
    (child_text (called_of l.places l.spelling)
    (line (nodes_of l.nodes) (called_of l.places l.spelling)))
    (kids_at l.nodes.records.now l.t) l.acc l.k-index
