-- `term_add::find_symbol` meets its contract: the names of a store that is well formed are entries. Assumes nothing.
use Rattle.term_rules.proofs.FactsLaws.{sound-of-well_formed}
use Rattle.term_layout.specs.Sound.{store_of}
use Rattle.term_add.proofs.MatchLaws.{entries-sound}
use Rattle.term_add.proofs.find_symbol.Goals as goal

pub find-requires : goal.find-requires
find-requires c =
    let s = store_of c.args.store.now in
    entries-sound s (sound-of-well_formed s c.args.store.now.sound)
