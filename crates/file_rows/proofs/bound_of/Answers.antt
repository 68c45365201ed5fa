-- `file_rows::bound_of` meets its contract: by the sort's kind. Assumes nothing.
use mathlib.Core.Path.{sym}
use Rattle.file_rows.proofs.CellLaws.{range-when-eq, range-when-base}
use Rattle.file_rows.proofs.bound_of.Goals as goal

pub returns-then-sorts-j-eq1 : goal.returns-then-sorts-j-eq1
returns-then-sorts-j-eq1 c = sym (range-when-eq _ _ _ _ c.if-sorts-j-eq1.true)

pub returns : goal.returns
returns c = sym (range-when-base _ _ _ _ c.if-sorts-j-eq1.false)
