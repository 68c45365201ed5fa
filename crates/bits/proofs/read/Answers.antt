-- `bits::read` meets its contract: the bits are there or not as `has` says. Assumes nothing.
use mathlib.Core.Path.{sym, ◌∙◌}
use Rattle.bits.proofs.FieldLaws.{holds-true, field-of-holds, field-refuses}
use Rattle.bits.proofs.read.Goals as goal

pub returns-then-not-has : goal.returns-then-not-has
returns-then-not-has c = sym (field-refuses _ _ _ (sym c.has.ensures ∙ c.if-not-has.true))

pub gather-requires-clause-width_bound_2 : goal.gather-requires-clause-width_bound_2
gather-requires-clause-width_bound_2 c = holds-true _ _ _ (sym c.has.ensures ∙ c.if-not-has.false)

pub returns : goal.returns
returns c = rw c.gather.ensures (sym (field-of-holds _ _ _ (sym c.has.ensures ∙ c.if-not-has.false)))
