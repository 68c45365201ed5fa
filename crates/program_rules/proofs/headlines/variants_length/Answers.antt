-- `headlines::variants_length` meets its contract: the word and the numbers. Assumes nothing.
use Rattle.std.proofs.Common.{ap, length, ◌∙◌}
use Rattle.program_rules.proofs.headlines.LineLaws.{variants-line}
use Rattle.program_rules.proofs.headlines.variants_length.Goals as goal

pub returns : goal.returns
returns c = c.line_length.ensures ∙ ap length (variants-line c.args.k c.args.p)
