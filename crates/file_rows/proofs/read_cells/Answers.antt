-- `file_rows::read_cells` meets its contract: the cells read so far stand in their places, and the rest of the reading is
-- that of the whole. Assumes nothing.
use mathlib.Core.Path.{sym, ap, ◌∙◌}
use Rattle.file_rows.specs.In.{range_in}
use Rattle.file_rules.proofs.ReadingLaws.{reads-got, reads-refused, reads-exit}
use Rattle.file_rows.proofs.CellLaws.{column-small, cell-refused, cell-over, cells-more, cells-refuse, cells-end}
use Rattle.file_rows.proofs.read_cells.Goals as goal

pub bound_of-bound-requires : goal.bound_of-bound-requires
bound_of-bound-requires c = rw c.column_of-k.ensures (column-small _ _ _ _ _ c.requires.sound)

pub returns-in_err-v : goal.returns-in_err-v
returns-in_err-v c =
    let b = c.bound_of-bound.ensures ∙ ap (range_in _ _ _) c.column_of-k.ensures in
    reads-exit _ c.from_residual.ensures.1 (cells-refuse c.loop-j.invariant c.loop-j-test.true b
    (cell-refused _ _ _ (sym c.in_err-v.ensures)))

pub returns-then-bound-v : goal.returns-then-bound-v
returns-then-bound-v c =
    let b = c.bound_of-bound.ensures ∙ ap (range_in _ _ _) c.column_of-k.ensures in
    reads-refused (cells-refuse c.loop-j.invariant c.loop-j-test.true b
    (cell-over _ _ _ (sym c.in_ok-v.ensures) c.if-bound-v.true))

pub loop-j-preserved : goal.loop-j-preserved
loop-j-preserved c =
    let b = c.bound_of-bound.ensures ∙ ap (range_in _ _ _) c.column_of-k.ensures in
    cells-more c.loop-j.invariant c.loop-j-test.true b
    (sym c.in_ok-v.ensures) c.if-bound-v.false

pub returns : goal.returns
returns c =
    let l = c.loop-j.invariant in
    reads-got (cells-end l c.loop-j-test.false) l.held
