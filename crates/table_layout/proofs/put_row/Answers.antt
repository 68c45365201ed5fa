-- `table_layout::put_row` meets its contract. Its first numbers are written one by one, its children as one part.
-- Assumes nothing.
use Prim.Native.Nat.{◌*◌, ◌+◌}
use mathlib.Core.Path.{refl, ◌∙◌}
use lib.ListN.{length}
use Rattle.std.proofs.lemmas.Slice.{put_mid-paste}
use Rattle.table_layout.specs.Rows.{width}
use Rattle.table_layout.proofs.RowLaws.{paste-row}
use native.Mathlib.Omega.{arith}
use Rattle.table_layout.proofs.put_row.Goals as goal

pub returns : goal.returns
returns c =
    let g = c.args in
    put_mid-paste (g.i * width + 4) _ _ _ g.children.now (length g.children.now) c.copy_from_slice.ensures.after
    (omega arith) refl
    ∙ paste-row g.rows.now (g.i * width) g.row g.function g.output g.children.now
    (omega (arith, c.requires.has_row))
