-- `headlines::best_length` meets its contract: the word and the numbers. Assumes nothing.
use Rattle.std.proofs.Common.{ap, length, ◌∙◌}
use Rattle.program_rules.proofs.headlines.LineLaws.{best-line}
use Rattle.program_rules.proofs.headlines.best_length.Goals as goal

pub returns : goal.returns
returns c = c.line_length.ensures ∙ ap length (best-line c.args.c c.args.n c.args.p)
