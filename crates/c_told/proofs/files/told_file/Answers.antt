-- `files::told_file` meets its contract: on arrays of zeros the reader is exact. Assumes nothing.
use Rattle.c_told.proofs.files.FileLaws.{file-told}
use Rattle.c_told.proofs.files.told_file.Goals as goal

pub returns : goal.returns
returns c = file-told _ c.read_parts.ensures c.told_counts.ensures
