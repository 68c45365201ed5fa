-- `texts::needlevale_let_text` meets its contract: `lent_texts::lets::let_text` does the work, and its answer is told. Assumes nothing.
use Rattle.std.proofs.Common.{arith}
use Rattle.lent.specs.Records.{lent_store}
use Rattle.text_whole.specs.LetPlaced.{naming}
use Rattle.needlevale_c.proofs.texts.TextLaws.{let-fits, let-writes}
use Rattle.needlevale_c.proofs.texts.needlevale_let_text.Goals as goal

pub told_lets-requires : goal.told_lets-requires
told_lets-requires c =
    let g = c.args in
    let r = c.let_text-r in
    let-fits (lent_store g.ts.now g.ns.now g.terms g.symbols) (naming g.prefix.now g.hint.now g.start g.bare) g.term
    g.out.now r.new.out r.result r.ensures (omega arith)

pub returns : goal.returns
returns c =
    let g = c.args in
    let r = c.let_text-r in
    let-writes (lent_store g.ts.now g.ns.now g.terms g.symbols) (naming g.prefix.now g.hint.now g.start g.bare) g.term
    g.out.now r.new.out r.result r.ensures c.told_lets.result c.told_lets.ensures
