-- `run_texts::run_all` ends: the calls are passed in order.
use Rattle.std.proofs.Common.{◌-◌, ◌≤◌, length}
use Rattle.run_texts.proofs.run_all.Given as goal

abbrev pub invariant-loop-p : goal.invariant-loop-p
invariant-loop-p g l = l.p ≤ length l.s

abbrev pub decreases-loop-p : goal.decreases-loop-p
decreases-loop-p g l = length l.s - l.p
