-- `terms::needlevale_get` meets its contract: `lent_terms::get` does the work, and its answer is told. Assumes nothing.
use Rattle.std.proofs.Common.{ap, ◌∙◌}
use Rattle.c_told.specs.Terms.{got_of}
use Rattle.needlevale_c.proofs.terms.needlevale_get.Goals as goal

pub returns : goal.returns
returns c = c.told_got.ensures ∙ ap got_of c.get-r.ensures
