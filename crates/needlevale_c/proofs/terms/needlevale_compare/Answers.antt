-- `terms::needlevale_compare` meets its contract: `lent_terms::compare` does the work, and its answer is told. Assumes nothing.
use Rattle.std.proofs.Common.{ap, ◌∙◌}
use Rattle.c_told.specs.Terms.{order_of}
use Rattle.needlevale_c.proofs.terms.needlevale_compare.Goals as goal

pub returns : goal.returns
returns c = c.told_order.ensures ∙ ap order_of c.compare-r.ensures
