-- `variant_lines::texts_length` meets its contract: the answers passed are summed. Assumes nothing.
use Rattle.std.proofs.Common.{◌≡◌, length}
use Rattle.text_pieces.specs.Pieces.{capped}
use Rattle.text_pieces.specs.Readable.{nodes}
use Rattle.program.specs.Replies.{reply_texts}
use Rattle.program.proofs.variant_lines.texts_length.Given as goal

abbrev pub invariant-loop-j : goal.invariant-loop-j
invariant-loop-j l = l.acc ≡ capped (length (reply_texts (nodes l.records l.literals l.names) l.n l.costs l.terms l.j))
