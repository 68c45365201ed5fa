-- `text_lines::body_width` meets its contract. Assumes nothing.
use mathlib.Core.Path.{sym, ◌∙◌}
use Rattle.text_lines.proofs.LineLaws.{body_width-leaf, body_width-wide}
use Rattle.text_lines.proofs.body_width.Goals as goal

pub returns-then-count_of-eq0 : goal.returns-then-count_of-eq0
returns-then-count_of-eq0 c =
    sym (body_width-leaf c.args.records.now c.args.wides.now c.args.i c.args.t (sym c.count_of.ensures ∙
    c.if-count_of-eq0.true))

pub returns : goal.returns
returns c =
    sym (body_width-wide c.args.records.now c.args.wides.now c.args.i c.args.t
    (λ e. c.if-count_of-eq0.false (c.count_of.ensures ∙ e)))
