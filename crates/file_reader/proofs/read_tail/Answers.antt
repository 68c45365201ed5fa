-- `file_reader::read_tail` meets its contract: the rows, then the end. Assumes nothing.
use native.Mathlib.Omega.{arith}
use Rattle.file_rules.proofs.ReadingLaws.{reads-done, reads-not, counts-done, counts-not, counts-got, counts-exit}
use Rattle.file_reader.proofs.parts.PartLaws.{rows-near}
use Rattle.file_reader.proofs.TableSteps.{tail-stops, tail-cut, tail-ends}
use Rattle.file_reader.proofs.read_tail.Goals as goal

pub returns-in_err-read : goal.returns-in_err-read
returns-in_err-read c =
    counts-exit _ c.from_residual.ensures.1
    (tail-stops _ _ _ _ _ _ _ _ _ (counts-not c.read_rows.ensures c.in_err-read.was))

pub read_end-requires : goal.read_end-requires
read_end-requires c =
    let r = counts-done c.read_rows.ensures c.in_ok-read.was in
    omega (arith, rows-near _ _ _ _ _ _ _ _ _ c.requires.sound r.is, c.requires.at_bound)

pub returns-in_err-next : goal.returns-in_err-next
returns-in_err-next c =
    let r = counts-done c.read_rows.ensures c.in_ok-read.was in
    counts-exit _ c.from_residual-in_err-next.ensures.1
    (tail-cut _ _ _ _ _ _ _ _ _ r.is (reads-not c.read_end.ensures c.in_err-next.was))

pub returns : goal.returns
returns c =
    let r = counts-done c.read_rows.ensures c.in_ok-read.was in
    let e = reads-done c.read_end.ensures c.in_ok-next.was in
    counts-got (tail-ends _ _ _ _ _ _ _ _ _ r.is e.is) r.size r.has
