-- `headlines::put_refused` meets its contract: the word and the numbers. Assumes nothing.
use Rattle.std.proofs.Common.{arith}
use Rattle.program_rules.proofs.headlines.LineLaws.{refused-line}
use Rattle.program_rules.proofs.headlines.put_refused.Goals as goal

pub put_line-requires : goal.put_line-requires
put_line-requires c = rw (refused-line c.args.k) (omega arith)

pub returns : goal.returns
returns c = rw (refused-line c.args.k) at c.put_line.ensures
