-- `table_flat::rows::lay` meets its contract: the outputs, the head costs, the starts, the children. Assumes nothing.
use Rattle.table_flat.proofs.FitLaws.{children-most, laid-of-parts}
use native.Mathlib.Omega.{arith}
use Rattle.table_flat.proofs.rows.lay.Goals as goal

pub lay_outputs-requires : goal.lay_outputs-requires
lay_outputs-requires c =
    record {
      order_in_bounds = c.requires.room.outputs_room;
      each = c.requires.rows_fit.outputs_fit;
    }

pub lay_heads-requires : goal.lay_heads-requires
lay_heads-requires c =
    record {
      order_in_bounds = c.requires.room.heads_room;
      each = c.requires.rows_fit.heads_fit;
    }

pub lay_starts-requires : goal.lay_starts-requires
lay_starts-requires c =
    record {
      order_len_bound = (c.requires.rows_fit.few, c.requires.room.starts_room);
      each = c.requires.rows_fit.arities_fit;
    }

pub lay_children-requires : goal.lay_children-requires
lay_children-requires c =
    let a = c.args in
    let most = children-most a.kinds.now a.bases.now a.declared.now a.costs.now a.outputs.now
    a.arities.now a.arguments.now a.rowfunctions.now a.cells.now a.order.now c.requires.rows_fit in
    record {
      each = c.requires.rows_fit.children_fit;
      order_in_bounds = omega (arith, most, c.requires.room.children_room);
    }

pub returns : goal.returns
returns c =
    let a = c.args in
    let w = c.lay_children in
    laid-of-parts a.kinds.now a.bases.now a.declared.now a.costs.now a.outputs.now
    a.arities.now
    a.arguments.now a.rowfunctions.now a.cells.now a.order.now c.requires.rows_fit w.result
    c.lay_outputs.new.list c.lay_heads.new.list
    c.lay_starts.new.starts w.new.list
    c.lay_outputs.ensures c.lay_heads.ensures c.lay_starts.ensures w.ensures
