-- `term_add::find_literal` meets its contract. The record of a literal is looked for. Assumes nothing.
use mathlib.Core.Path.{◌∙◌}
use mir.Syntax.{w64}
use mir.ValLaws.{to_z-of_z}
use Rattle.term_rules.proofs.FactsLaws.{sound-of-well_formed}
use Rattle.term_add.proofs.MatchLaws.{find_term-literal}
use native.Mathlib.Omega.{arith}
use Rattle.term_layout.specs.Sound.{store_of}
use Rattle.term_add.proofs.find_literal.Goals as goal

pub returns : goal.returns
returns c =
    let g = c.args in
    let s = store_of g.store.now in
    rw (to_z-of_z w64 g.literal c.ranges.literal) at c.find_record.ensures
    ∙ find_term-literal s (sound-of-well_formed s c.args.store.now.sound) g.literal
