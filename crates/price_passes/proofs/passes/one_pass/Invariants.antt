-- `price_passes::passes::one_pass` meets its contract: the rows from the i-th on make the rest of the pass. Assumes nothing.
use Rattle.price_passes.specs.Flat.{flat_of, state_of}
use Rattle.price_passes.proofs.PassLaws.{WithinPass}
use Rattle.price_passes.proofs.passes.one_pass.Given as goal

abbrev pub invariant-loop-i : goal.invariant-loop-i
invariant-loop-i l = WithinPass (flat_of l.rows) (state_of l.initial.costs l.initial.ranks l.last) (state_of l.costs l.ranks l.l) l.i
