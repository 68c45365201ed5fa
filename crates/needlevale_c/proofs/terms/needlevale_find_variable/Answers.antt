-- `terms::needlevale_find_variable` meets its contract: `lent_terms::find_variable` does the work, and its answer is told. Assumes nothing.
use Rattle.std.proofs.Common.{ap, ◌∙◌}
use Rattle.c_told.specs.Terms.{number_of}
use Rattle.needlevale_c.proofs.terms.needlevale_find_variable.Goals as goal

pub returns : goal.returns
returns c = c.told_number.ensures ∙ ap number_of c.find_variable-r.ensures
