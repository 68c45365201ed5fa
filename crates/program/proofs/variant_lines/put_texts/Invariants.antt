-- `variant_lines::put_texts` meets its contract: the answers passed stand. Assumes nothing.
use Rattle.text_pieces.specs.Readable.{nodes}
use Rattle.program_rules.specs.Step.{Step}
use Rattle.program.specs.Replies.{reply_texts}
use Rattle.program.proofs.variant_lines.put_texts.Given as goal

abbrev pub invariant-loop-j : goal.invariant-loop-j
invariant-loop-j l = Step (reply_texts (nodes l.records l.literals l.names) l.n l.costs l.terms l.j) l.p l.e l.initial.out l.out
