-- `headlines::put_variants` meets its contract: the word and the numbers. Assumes nothing.
use Rattle.std.proofs.Common.{arith}
use Rattle.program_rules.proofs.headlines.LineLaws.{variants-line}
use Rattle.program_rules.proofs.headlines.put_variants.Goals as goal

pub put_line-requires : goal.put_line-requires
put_line-requires c = rw (variants-line c.args.k c.args.p) (omega arith)

pub returns : goal.returns
returns c = rw (variants-line c.args.k c.args.p) at c.put_line.ensures
