-- `build::build` meets its contract: the class's term, with the counts put back where there is none. Assumes nothing.
use Rattle.build.proofs.AnswerLaws.{none_when}
use Rattle.build.proofs.build.Goals as goal

pub returns-then-is_none-clause-built : goal.returns-then-is_none-clause-built
returns-then-is_none-clause-built c =
    let b = c.grow_class-built in
    let h = none_when b.result c.is_none.ensures c.if-is_none.true in
    rw h (rw h at b.ensures.built)
