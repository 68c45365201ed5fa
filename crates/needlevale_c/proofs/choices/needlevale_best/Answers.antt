-- `choices::needlevale_best` meets its contract: `lent_extract::best` does the work, and its answer is told. Assumes nothing.
use Rattle.needlevale_c.proofs.choices.ChoiceLaws.{best-left}
use Rattle.needlevale_c.proofs.choices.needlevale_best.Goals as goal

pub returns : goal.returns
returns c =
    let g = c.args in
    best-left g.ts.now g.ns.now g.terms g.symbols _ c.best-r.result c.told_best.result c.best-r.new.ts c.best-r.new.ns
    c.best-r.ensures c.told_best.ensures
