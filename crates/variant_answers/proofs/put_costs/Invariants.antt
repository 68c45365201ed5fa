-- `variant_answers::put_costs` meets its contract: the first k costs are in their places. Assumes nothing.
use Prim.Native.Nat.{◌≤◌}
use mathlib.Core.Path.{◌≡◌}
use lib.ListN.{length}
use lib.Seq.{paste}
use Rattle.variant_answers.specs.Kept.{prices_of}
use Rattle.variant_answers.proofs.put_costs.Given as goal

abbrev pub invariant-loop-k : goal.invariant-loop-k
invariant-loop-k l = (l.k ≤ length l.list) × (length l.out ≡ length l.initial.out) × (l.out ≡ paste l.initial.out 0 (prices_of l.prices l.list) l.k)
