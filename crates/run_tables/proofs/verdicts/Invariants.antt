-- `run_tables::verdicts`: the files are passed in order.
use Rattle.std.proofs.Common.{◌≤◌, length}
use Rattle.run_tables.proofs.verdicts.Given as goal

abbrev pub invariant-loop-k : goal.invariant-loop-k
invariant-loop-k l = l.p ≤ length l.s
