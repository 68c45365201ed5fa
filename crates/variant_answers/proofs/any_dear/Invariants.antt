-- `variant_answers::any_dear` meets its contract: the rows from place j on decide. Assumes nothing.
use Prim.Native.Nat.{◌≤◌}
use mathlib.Core.Path.{◌≡◌}
use lib.ListN.{length, drop}
use Rattle.variant_answers.specs.Kept.{dear_in}
use Rattle.variant_answers.proofs.any_dear.Given as goal

abbrev pub invariant-loop-row : goal.invariant-loop-row
invariant-loop-row l = (l.row-index ≤ length l.list) × (dear_in l.prices (drop l.row-index l.list) ≡ dear_in l.prices l.list)
