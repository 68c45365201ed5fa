-- `text_write::put` meets its contract: its name, its head alone, or its head and its children. Assumes nothing.
use Prim.Native.Nat.{◌+◌}
use mathlib.Core.Path.{◌≡◌}
use lib.Dec.{ltb}
use Rattle.text_pieces.specs.Pieces.{gap_text}
use Rattle.term_rules.specs.Lent.{kids_at}
use Rattle.text_pieces.specs.Readable.{head_text}
use Rattle.text_pieces.specs.Read.{nodes_of}
use Rattle.text_write.specs.Piece.{piece}
use Rattle.text_write.specs.Seen.{view_of}
use Rattle.text_write.proofs.WritingLaws.{Writing}
use Rattle.text_write.proofs.+put.Given as goal

abbrev pub invariant-loop-k : goal.invariant-loop-k
invariant-loop-k l = (l.ks ≡ kids_at l.page.nodes.records.now l.t)
    × Writing (head_text (nodes_of l.page.nodes l.t)) (gap_text (ltb l.limit l.width) (l.m + l.i + 2))
    (piece (view_of l.page l.limit) 0 l.m (l.i + 2)) (kids_at l.page.nodes.records.now l.t) l.initial.out l.out l.p
    l.k-index

abbrev pub decreases-put : goal.decreases-put
decreases-put l = l.t
