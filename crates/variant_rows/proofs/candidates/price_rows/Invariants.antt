-- `candidates::price_rows` meets its contract: the rows before place i have their costs. Assumes nothing.
use Rattle.variant_rows.specs.Candidates.{Prices}
use Rattle.variant_rows.proofs.candidates.price_rows.Given as goal

abbrev pub invariant-loop-i : goal.invariant-loop-i
invariant-loop-i l = Prices l.costs l.rows.heads.now l.rows.starts.now l.rows.children.now l.i l.prices
