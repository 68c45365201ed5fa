-- `terms::needlevale_size` meets its contract: `lent_terms::size` does the work, and its answer is told. Assumes nothing.
use Rattle.std.proofs.Common.{ap, ◌∙◌}
use Rattle.c_told.specs.Terms.{number_of}
use Rattle.needlevale_c.proofs.terms.needlevale_size.Goals as goal

pub returns : goal.returns
returns c = c.told_number.ensures ∙ ap number_of c.size-r.ensures
