-- `headlines::variant_length` meets its contract: the word and the numbers. Assumes nothing.
use Rattle.std.proofs.Common.{ap, length, ◌∙◌}
use Rattle.program_rules.proofs.headlines.LineLaws.{variant-line}
use Rattle.program_rules.proofs.headlines.variant_length.Goals as goal

pub returns : goal.returns
returns c = c.line_length.ensures ∙ ap length (variant-line c.args.i c.args.c c.args.n)
