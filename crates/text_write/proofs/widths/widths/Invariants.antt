-- `widths::widths` meets its contract: the table is right up to the term that is next. Assumes nothing.
use Prim.Native.Nat.{◌≤◌}
use mathlib.Core.Path.{◌≡◌}
use lib.ListN.{length}
use Rattle.text_pieces.specs.Read.{nodes_of}
use Rattle.text_write.specs.Widths.{Widths}
use Rattle.text_write.specs.Seen.{called_of}
use Rattle.text_write.proofs.widths.widths.Given as goal

abbrev pub invariant-loop-t : goal.invariant-loop-t
invariant-loop-t l = (l.t ≤ l.nodes.n)
    × ((length l.wides ≡ length l.initial.wides)
    × Widths (nodes_of l.nodes) (called_of l.places l.spelling) l.wides l.t)
