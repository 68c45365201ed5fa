-- `text_counts::size_of` meets its contract: the children passed are summed. Assumes nothing.
use Rattle.text_counts.proofs.TallyLaws.{Summing}
use Rattle.text_counts.proofs.size_of.Given as goal

abbrev pub invariant-loop-k : goal.invariant-loop-k
invariant-loop-k l = Summing l.sizes l.ks l.size l.k-index
