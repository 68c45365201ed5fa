-- `parts::read_rows` meets its contract: the count, then the rows. Assumes nothing.
use mathlib.Core.Path.{sym, ◌∙◌}
use native.Mathlib.Omega.{arith}
use Rattle.bits.proofs.FieldLaws.{field-read}
use Rattle.file_rules.proofs.ReadingLaws.{reads-done, reads-not, counts-of-done, counts-refused, counts-exit}
use Rattle.file_rows.proofs.RowLaws.{rows_in-length}
use Rattle.file_reader.proofs.parts.PartLaws.{counts-along, rows_refused, rows-over, rows-from}
use Rattle.file_reader.proofs.parts.read_rows.Goals as goal

pub returns-in_err-v : goal.returns-in_err-v
returns-in_err-v c =
    counts-exit _ c.from_residual.ensures.1 (rows_refused _ _ _ _ _ _ _ _ _
    (sym c.in_err-v.ensures))

pub returns-then-v-gt1024 : goal.returns-then-v-gt1024
returns-then-v-gt1024 c =
    counts-refused (rows-over _ _ _ _ _ _ _ _ _
    (sym c.in_ok-v.ensures) c.if-v-gt1024.true)

pub read_rows-requires-clause-at_bound : goal.read_rows-requires-clause-at_bound
read_rows-requires-clause-at_bound c =
    let k = field-read _ _ 11 (sym c.in_ok-v.ensures) in
    omega (arith, k.end, c.requires.at_bound)

pub returns-in_err-next : goal.returns-in_err-next
returns-in_err-next c =
    counts-exit _ c.from_residual-in_err-next.ensures.1 (rows-from _ _ _ _ _ _ _ _ _ (sym c.in_ok-v.ensures)
    c.if-v-gt1024.false
    ∙ reads-not c.read_rows.ensures c.in_err-next.was)

pub returns : goal.returns
returns c =
    counts-along (rows-from _ _ _ _ _ _ _ _ _ (sym c.in_ok-v.ensures)
    c.if-v-gt1024.false)
    (counts-of-done (reads-done c.read_rows.ensures c.in_ok-next.was)
    (λ xs j e. rows_in-length _ _ _ _ _ _ _ _ _ _ e))
