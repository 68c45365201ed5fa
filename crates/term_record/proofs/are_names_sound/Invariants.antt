-- `term_record::are_names_sound` meets its contract. The walk stops at the first name that is not sound. Assumes nothing.
use mathlib.Core.Path.{◌≡◌}
use mathlib.Core.Bool.{true}
use Rattle.term_rules.specs.WellFormed.{every, sound_name}
use Rattle.term_record.proofs.are_names_sound.Given as goal

abbrev pub invariant-loop-k : goal.invariant-loop-k
invariant-loop-k l = every l.k (sound_name l.names) ≡ true
