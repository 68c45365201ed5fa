-- `choices::needlevale_variants` meets its contract: `lent_extract::variants` does the work, and its answer is told. Assumes nothing.
use Rattle.needlevale_c.proofs.choices.ChoiceLaws.{variants-left}
use Rattle.needlevale_c.proofs.choices.needlevale_variants.Goals as goal

pub returns : goal.returns
returns c =
    let g = c.args in
    variants-left g.ts.now g.ns.now g.terms g.symbols _ c.variants-r.result c.told_variants.result c.variants-r.new.ts
    c.variants-r.new.ns c.variants-r.new.costs c.variants-r.new.found c.variants-r.ensures c.told_variants.ensures
