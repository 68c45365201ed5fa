-- `table_flat::rows::head_of` meets its contract. Assumes nothing.
use borrow.Author.Tests.{ne_eqb, eq-eqb}
use Rattle.table_flat.specs.Rows.{head_cost, head_in}
use Rattle.table_flat.proofs.rows.head_of.Goals as goal

pub returns-then-declared-f-eq0 : goal.returns-then-declared-f-eq0
unfolding head_cost head_in
returns-then-declared-f-eq0 c = rw (eq-eqb _ _ c.if-declared-f-eq0.true)

pub returns : goal.returns
unfolding head_cost head_in
returns c = rw (ne_eqb _ _ c.if-declared-f-eq0.false)
