-- `text_pieces::put_bytes` meets its contract: the bytes passed stand at the start. Assumes nothing.
use Rattle.text_pieces.proofs.PieceLaws.{Copying}
use Rattle.text_pieces.proofs.put_bytes.Given as goal

abbrev pub invariant-loop-j : goal.invariant-loop-j
invariant-loop-j l = Copying l.initial.out l.s l.out l.j
