-- `terms::needlevale_sort` meets its contract: `lent_terms::sort` does the work, and its answer is told. Assumes nothing.
use Rattle.std.proofs.Common.{◌∙◌}
use mir.Syntax.{w64}
use mir.ValLaws.{to_z-of_z}
use Rattle.needlevale_c.proofs.terms.TermLaws.{sorts-so}
use Rattle.needlevale_c.proofs.terms.needlevale_sort.Goals as goal

pub returns : goal.returns
returns c =
    let z = c.told_verdict in
    sorts-so c.sort-r.result c.sort-r.new.list _ _ c.sort-r.ensures
    (to_z-of_z w64 z.result (record { sfits = z.type_inv }) ∙ z.ensures)
