-- `text_counts::add_places` meets its contract: the places passed are added. Assumes nothing.
use Rattle.text_counts.proofs.TallyLaws.{Adding}
use Rattle.text_counts.proofs.add_places.Given as goal

abbrev pub invariant-loop-k : goal.invariant-loop-k
invariant-loop-k l = Adding 65536 l.initial.counts l.ks l.counts l.k-index
