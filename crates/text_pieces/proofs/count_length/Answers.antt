-- `text_pieces::count_length` meets its contract. Assumes nothing.
use mathlib.Core.Path.{sym, ap, ◌∙◌}
use lib.ListN.{length}
use Rattle.text_pieces.proofs.PieceLaws.{count_text-bare, count_text-digits}
use Rattle.text_pieces.proofs.count_length.Goals as goal

pub returns-then-is_bare : goal.returns-then-is_bare
returns-then-is_bare c =
    let a = c.args in
    sym (ap length (count_text-bare a.bare a.n (sym c.is_bare.ensures ∙ c.if-is_bare.true)))

pub returns : goal.returns
returns c =
    let a = c.args in
    c.digits_length.ensures
    ∙ sym (ap length (count_text-digits a.bare a.n
    (sym c.is_bare.ensures ∙ c.if-is_bare.false)))
