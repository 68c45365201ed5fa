-- `table_flat::rows::lay_row` meets its contract. Assumes nothing.
use mathlib.Core.Path.{ap, ◌∙◌}
use mathlib.Core.List.{◌++◌}
use lib.ListN.{length, take}
use Rattle.table_flat.proofs.ChildLaws.{row-ready, row-children}
use Rattle.table_flat.proofs.rows.lay_row.Goals as goal

pub lay_cells-requires : goal.lay_cells-requires
lay_cells-requires c =
    let a = c.args in
    let all-asked = row-ready a.kinds.now a.bases.now a.arities.now a.arguments.now a.rowfunctions.now
    a.cells.now
    a.r c.requires.children_fit a.at (length a.list.now) c.requires.r_in_bounds in
    record { cells_len = all-asked.0; sorts_in_bounds = all-asked.1.0; cells_fit = all-asked.1.1 }

pub returns : goal.returns
returns c =
    let a = c.args in
    let w = c.lay_cells in
    record {
      room = w.ensures.room;
      held = w.ensures.held ∙ ap (λ x. take a.at a.list.now ++ x)
          (row-children a.kinds.now a.bases.now a.arities.now a.arguments.now a.rowfunctions.now
          a.cells.now a.r c.requires.children_fit);
    }
