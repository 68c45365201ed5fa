-- `term_add::find_application` meets its contract. The name is looked for, then the record. Assumes nothing.
use mathlib.Core.Path.{sym, ◌∙◌}
use Rattle.term_rules.proofs.FactsLaws.{sound-of-well_formed}
use Rattle.term_layout.specs.Sound.{store_of}
use Rattle.term_add.proofs.MatchLaws.{find_term-application, find_term-application-none}
use Rattle.term_add.proofs.find_application.Goals as goal

pub returns-in_default : goal.returns-in_default
returns-in_default c =
    let g = c.args in
    let s = store_of g.store.now in
    find_term-application-none s (sound-of-well_formed s g.store.now.sound) g.name.now g.children.now
    (sym c.find_symbol.ensures ∙ c.in_default.is)

pub returns : goal.returns
returns c =
    let g = c.args in
    let s = store_of g.store.now in
    c.find_record.ensures
    ∙ find_term-application s (sound-of-well_formed s c.args.store.now.sound) g.name.now g.children.now _
    (sym c.find_symbol.ensures ∙ c.in-Some.is)
