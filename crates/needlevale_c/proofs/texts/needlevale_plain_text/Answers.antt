-- `texts::needlevale_plain_text` meets its contract: `lent_texts::plain::plain_text` does the work, and its answer is told. Assumes nothing.
use Rattle.std.proofs.Common.{◌∙◌, arith}
use mir.Syntax.{w64}
use mir.ValLaws.{to_z-of_z}
use Rattle.lent.specs.Records.{lent_store}
use Rattle.needlevale_c.proofs.texts.TextLaws.{plain_fits, plain-writes}
use Rattle.needlevale_c.proofs.texts.needlevale_plain_text.Goals as goal

pub told_text-requires : goal.told_text-requires
told_text-requires c =
    let g = c.args in
    let r = c.plain_text-r in
    plain_fits (lent_store g.ts.now g.ns.now g.terms g.symbols) g.term g.out.now r.new.out r.result r.ensures
    (omega arith)

pub returns : goal.returns
returns c =
    let g = c.args in
    let r = c.plain_text-r in
    let z = c.told_text in
    plain-writes (lent_store g.ts.now g.ns.now g.terms g.symbols) g.term g.out.now r.new.out r.result r.ensures
    _ (to_z-of_z w64 z.result (record { sfits = z.type_inv }) ∙ z.ensures)
