-- `term_record::are_records_sound` meets its contract. The walk stops at the first record that is not sound. Assumes
-- nothing.
use mathlib.Core.Path.{◌≡◌}
use mathlib.Core.Bool.{true}
use Rattle.term_rules.specs.WellFormed.{every}
use Rattle.term_record.specs.Flat.{sound_record_at}
use Rattle.term_record.proofs.are_records_sound.Given as goal

abbrev pub invariant-loop-i : goal.invariant-loop-i
invariant-loop-i l = every l.i (sound_record_at l.records l.literals l.symbols) ≡ true
