-- `lent_texts::plain::plain_text` meets its contract: the store is copied, and `text::plain_text` does the work. Assumes nothing.
use Rattle.std.proofs.Common.{ap, ◌∙◌}
use Rattle.term_rules.specs.Lent.{Store}
use Rattle.text.specs.Told.{plain_told}
use Rattle.lent.proofs.StoreLaws.{copied-store}
use Rattle.lent_texts.proofs.plain.plain_text.Goals as goal

pub returns : goal.returns
returns c =
    let g = c.args in
    c.plain_text.ensures
    ∙ ap (λ (s : Store). plain_told s g.term g.out.now)
    (c.lent.ensures ∙ copied-store g.ts.now g.ns.now c.copy_of.new.copy g.terms g.symbols c.copy_of.ensures)
