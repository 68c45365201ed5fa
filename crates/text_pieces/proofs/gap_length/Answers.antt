-- `text_pieces::gap_length` meets its contract. Assumes nothing.
use mathlib.Core.Path.{sym, ap, ◌∙◌}
use lib.ListN.{length}
use Rattle.text_pieces.proofs.PieceLaws.{gap_text-narrow, gap_text-wide, new_line-length}
use Rattle.text_pieces.proofs.gap_length.Goals as goal

pub returns-then-limit-width : goal.returns-then-limit-width
returns-then-limit-width c =
    let a = c.args in
    sym (ap length (gap_text-wide a.limit a.width a.n c.if-limit-width.true) ∙ new_line-length a.n)

pub returns-else-limit-width : goal.returns-else-limit-width
returns-else-limit-width c =
    let a = c.args in
    sym (ap length (gap_text-narrow a.limit a.width a.n c.if-limit-width.false))
