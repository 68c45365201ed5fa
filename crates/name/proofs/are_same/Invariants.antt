-- `name::are_same` meets its contract. From the end, the walk stops at the first bytes that differ. Assumes nothing.
use mathlib.Core.Path.{◌≡◌}
use mathlib.Core.Bool.{true}
use lib.ListN.{drop}
use Rattle.name.specs.Name.{same}
use Rattle.name.proofs.are_same.Given as goal

abbrev pub invariant-loop-i : goal.invariant-loop-i
invariant-loop-i l = same (drop l.i l.a) (drop l.i l.b) ≡ true
