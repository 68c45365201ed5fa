-- `headlines::put_best` meets its contract: the word and the numbers. Assumes nothing.
use Rattle.std.proofs.Common.{arith}
use Rattle.program_rules.proofs.headlines.LineLaws.{best-line}
use Rattle.program_rules.proofs.headlines.put_best.Goals as goal

pub put_line-requires : goal.put_line-requires
put_line-requires c = rw (best-line c.args.c c.args.n c.args.p) (omega arith)

pub returns : goal.returns
returns c = rw (best-line c.args.c c.args.n c.args.p) at c.put_line.ensures
