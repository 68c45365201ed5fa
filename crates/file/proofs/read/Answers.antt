-- `file::read` meets its contract: on the call's own arrays the reader is exact; they are handed over only when all
-- has been read. Assumes nothing.
use Rattle.file.proofs.ReadLaws.{read-refuses, read-accepts}
use Rattle.file.proofs.read.Goals as goal

pub returns-in_err-counts : goal.returns-in_err-counts
returns-in_err-counts c = read-refuses _ _ c.from_residual.ensures.1 c.in_err-counts.ensures

pub returns : goal.returns
returns c = read-accepts _ c.in_ok-counts.ensures
