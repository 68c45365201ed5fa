-- `term_record::record_at` meets its contract. The fields are read one by one. Assumes nothing.
use mathlib.Core.Path.{◌∙◌}
use lib.ListN.{get_or}
use lib.IntN.{pos}
use mir.Syntax.{w64}
use mir.ValLaws.{to_z-of_z}
use Rattle.term_rules.specs.Lent.{record_in}
use Rattle.term_rules.proofs.SameLaws.{term-same}
use Rattle.term_record.proofs.record_at.Goals as goal

pub returns : goal.returns
unfolding record_in
returns c =
    let g = c.args in
    term-same _ _ c.kind_of-kind.ensures c.symbol_of-symbol.ensures c.count_of-count.ensures
    (to_z-of_z w64 (get_or g.literals.now g.i (pos 0)) (record { sfits = c.result-1.given }))
    (c.copy_from_slice.ensures.after ∙ c.places_of.ensures)
