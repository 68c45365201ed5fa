-- `term_record::are_names_new` meets its contract. The walk stops at the first name that is not new. Assumes nothing.
use mathlib.Core.Path.{◌≡◌}
use mathlib.Core.Bool.{true}
use Rattle.term_rules.specs.WellFormed.{every}
use Rattle.term_record.specs.Flat.{fresh_name}
use Rattle.term_record.proofs.are_names_new.Given as goal

abbrev pub invariant-loop-k : goal.invariant-loop-k
invariant-loop-k l = every l.k (fresh_name l.names) ≡ true
