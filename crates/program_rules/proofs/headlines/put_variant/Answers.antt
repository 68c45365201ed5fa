-- `headlines::put_variant` meets its contract: the word and the numbers. Assumes nothing.
use Rattle.program_rules.proofs.headlines.LineLaws.{variant-line}
use Rattle.program_rules.proofs.headlines.put_variant.Goals as goal

pub put_line-requires : goal.put_line-requires
put_line-requires c = rw (variant-line c.args.i c.args.c c.args.n) c.requires

pub returns : goal.returns
returns c = rw (variant-line c.args.i c.args.c c.args.n) at c.put_line.ensures
