-- `table_flat::rows::child_of` meets its contract. Assumes nothing.
use borrow.Author.Tests.{ne_eqb, eq-eqb}
use Rattle.table_flat.specs.Rows.{child_number}
use Rattle.table_flat.proofs.rows.child_of.Goals as goal

pub returns-then-kinds-s-eq1 : goal.returns-then-kinds-s-eq1
unfolding child_number
returns-then-kinds-s-eq1 c = rw (eq-eqb _ _ c.if-kinds-s-eq1.true)

pub returns : goal.returns
unfolding child_number
returns c = rw (ne_eqb _ _ c.if-kinds-s-eq1.false)
