-- `file_rows::read_rows` meets its contract: the rows read so far stand in the arrays, and the rest of the reading is that
-- of the whole. Assumes nothing.
use Rattle.file_rules.proofs.ReadingLaws.{reads-done, reads-not, reads-exit, reads-got}
use Rattle.file_rows.proofs.RowLaws.{zeros_of, rows_start, rows_more, rows-refuse, rows_end}
use Rattle.file_rows.proofs.read_rows.Goals as goal

pub loop-i-init : goal.loop-i-init
loop-i-init c = rows_start (zeros_of c.requires.rows_value)

pub returns-in_err-p : goal.returns-in_err-p
returns-in_err-p c =
    let l = c.loop-i.invariant in
    reads-exit _ c.from_residual.ensures.1 (rows-refuse l c.loop-i-test.true (reads-not c.read_row.ensures c.in_err-p.was))

pub loop-i-preserved : goal.loop-i-preserved
loop-i-preserved c =
    let l = c.loop-i.invariant in
    let d = reads-done c.read_row.ensures c.in_ok-p.was in
    rows_more l c.requires.sound c.requires.n_bound c.loop-i-test.true d.is d.has

pub returns : goal.returns
returns c =
    let l = c.loop-i.invariant in
    reads-got (rows_end l c.loop-i-test.false) l.held
