-- `lent_texts::lets::let_text` meets its contract: the store is copied, and `text::let_text` does the work. Assumes nothing.
use Rattle.std.proofs.Common.{ap, ◌∙◌}
use Rattle.term_rules.specs.Lent.{Store}
use Rattle.text_whole.specs.LetPlaced.{naming}
use Rattle.text.specs.LetTold.{let_told}
use Rattle.lent.proofs.StoreLaws.{copied-store}
use Rattle.lent_texts.proofs.lets.let_text.Goals as goal

pub returns : goal.returns
returns c =
    let g = c.args in
    c.let_text.ensures
    ∙ ap (λ (s : Store). let_told s (naming g.prefix.now g.hint.now g.start g.bare) g.term g.out.now)
    (c.lent.ensures ∙ copied-store g.ts.now g.ns.now c.copy_of.new.copy g.terms g.symbols c.copy_of.ensures)
