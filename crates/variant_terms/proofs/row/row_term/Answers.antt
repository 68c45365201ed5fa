-- `row::row_term` meets its contract: the row's term, with the counts put back where there is none. Assumes nothing.
use Rattle.build.proofs.AnswerLaws.{none_when}
use Rattle.variant_terms.proofs.row.row_term.Goals as goal

pub returns-then-is_none-clause-made : goal.returns-then-is_none-clause-made
returns-then-is_none-clause-made c =
    let b = c.grow_row-made in
    let h = none_when b.result c.is_none.ensures c.if-is_none.true in
    rw h (rw h at b.ensures.made)
