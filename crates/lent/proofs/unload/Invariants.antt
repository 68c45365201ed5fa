-- `lent::unload`: the first i records are put back. Assumes nothing.
use Rattle.std.proofs.Common.{◌≡◌}
use Rattle.lent.proofs.CopyLaws.{put_to}
use Rattle.lent.proofs.unload.Given as goal

abbrev pub invariant-loop-i : goal.invariant-loop-i
invariant-loop-i l = l.ts ≡ put_to l.initial.ts l.f.records l.f.literals l.i
