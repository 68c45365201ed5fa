-- `lengths::text_length` meets its contract, by the cases of the writer. Assumes nothing.
use Prim.Native.Nat.{◌+◌}
use mathlib.Core.Path.{◌≡◌}
use Rattle.term_rules.specs.Lent.{kids_at}
use Rattle.text_pieces.specs.Readable.{head_text}
use Rattle.text_pieces.specs.Read.{nodes_of}
use Rattle.text_write.specs.Piece.{gap_of, piece}
use Rattle.text_write.specs.Seen.{view_of}
use Rattle.text_write.proofs.MeasuringLaws.{Measuring}
use Rattle.text_write.proofs.lengths.+text_length.Given as goal

abbrev pub invariant-loop-k : goal.invariant-loop-k
invariant-loop-k l = (l.ks ≡ kids_at l.page.nodes.records.now l.t)
    × Measuring (head_text (nodes_of l.page.nodes l.t))
    (gap_of (view_of l.page l.limit) l.m l.i l.t)
    (piece (view_of l.page l.limit) 0 l.m (l.i + 2)) (kids_at l.page.nodes.records.now l.t) l.acc l.k-index

abbrev pub decreases-text_length : goal.decreases-text_length
decreases-text_length l = l.t
