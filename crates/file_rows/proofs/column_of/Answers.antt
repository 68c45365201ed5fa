-- `file_rows::column_of` meets its contract: by the column's place. Assumes nothing.
use mathlib.Core.Path.{sym}
use Rattle.file_rows.proofs.CellLaws.{column-when-argument, column-when-output}
use Rattle.file_rows.proofs.column_of.Goals as goal

pub returns-then-j-functions : goal.returns-then-j-functions
returns-then-j-functions c = sym (column-when-argument _ _ _ _ _ c.if-j-functions.true)

pub returns : goal.returns
returns c = sym (column-when-output _ _ _ _ _ c.if-j-functions.false)
