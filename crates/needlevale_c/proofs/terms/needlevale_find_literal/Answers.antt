-- `terms::needlevale_find_literal` meets its contract: `lent_terms::find_literal` does the work, and its answer is told. Assumes nothing.
use Rattle.std.proofs.Common.{ap, ◌∙◌}
use mir.Syntax.{w64}
use mir.ValLaws.{to_z-of_z}
use Rattle.c_told.specs.Terms.{number_of}
use Rattle.needlevale_c.proofs.terms.needlevale_find_literal.Goals as goal

pub returns : goal.returns
returns c = c.told_number.ensures ∙ ap number_of (rw (to_z-of_z w64 c.args.literal c.ranges.literal) at c.find_literal-r.ensures)
