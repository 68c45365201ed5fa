-- `parts::read_end` meets its contract: each `return` is a law of `end_at`. Assumes nothing.
use mathlib.Core.Path.{sym}
use Rattle.file_rules.proofs.ReadingLaws.{reads-got, reads-refused, reads-exit}
use Rattle.file_reader.proofs.parts.PartLaws.{end_refused, end-set, end_more, end-here}
use Rattle.file_reader.proofs.parts.read_end.Goals as goal

pub returns-in_err-v : goal.returns-in_err-v
returns-in_err-v c = reads-exit _ c.from_residual.ensures.1 (end_refused _ _ (sym c.in_err-v.ensures))

pub returns-then-v-ne0 : goal.returns-then-v-ne0
returns-then-v-ne0 c =
    reads-refused (end-set _ _ (sym c.in_ok-v.ensures) c.if-v-ne0.true)

pub returns-then-p-s : goal.returns-then-p-s
returns-then-p-s c =
    reads-refused (end_more _ _ (sym c.in_ok-v.ensures)
    c.if-v-ne0.false c.if-p-s.true)

pub returns : goal.returns
returns c =
    reads-got (end-here _ _ (sym c.in_ok-v.ensures)
    c.if-v-ne0.false c.if-p-s.false) tt
