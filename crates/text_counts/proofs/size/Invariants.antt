-- `text_counts::size` meets its contract: the table is right up to the term that is next. Assumes nothing.
use Rattle.text_counts.proofs.TallyLaws.{Sizing}
use Rattle.text_counts.proofs.size.Given as goal

abbrev pub invariant-loop-t : goal.invariant-loop-t
invariant-loop-t l = Sizing l.records l.n l.initial.sizes l.sizes l.t
