-- `text_counts::count` meets its contract: the terms from t on have given their places. Assumes nothing.
use Prim.Native.Nat.{◌-◌, ◌<◌}
use Rattle.text_counts.specs.Tallies.{Linked}
use Rattle.text_counts.proofs.TallyLaws.{Counting}
use Rattle.text_counts.proofs.count.Given as goal

abbrev pub invariant-loop-t : goal.invariant-loop-t
invariant-loop-t l = (w : Linked l.records l.n) (k : l.n - 1 < l.n) → Counting l.records l.n w k l.initial.counts
    l.counts l.t
