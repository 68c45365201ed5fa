-- `table_flat::rows::lay_children` meets its contract. The children of the rows below place `k` are laid. Assumes
-- nothing.
use Rattle.table_rules.proofs.PickedLaws.{gathers-end, gathers-room, gathers-on}
use Rattle.table_flat.specs.Rows.{children_in}
use native.Mathlib.Omega.{arith}
use Rattle.table_flat.proofs.rows.lay_children.Goals as goal

pub lay_row-m-requires : goal.lay_row-m-requires
lay_row-m-requires c =
    let a = c.args in
    let l = c.loop-r in
    record {
      children_fit = c.requires.each l.r-index (omega arith);
      r_in_bounds = gathers-room (children_in a.kinds.now a.bases.now a.arities.now a.arguments.now
          a.rowfunctions.now
          a.cells.now) a.order.now l.list l.m l.r-index l.invariant (omega arith)
          (omega (arith, c.requires.order_in_bounds, l.auto.list));
    }

pub loop-r-preserved : goal.loop-r-preserved
loop-r-preserved c =
    let a = c.args in
    let l = c.loop-r in
    let w = c.lay_row-m in
    gathers-on (children_in a.kinds.now a.bases.now a.arities.now a.arguments.now
    a.rowfunctions.now
    a.cells.now) a.order.now l.list l.m l.r-index l.invariant (omega arith)
    w.new.list w.result w.ensures.room w.ensures.held

pub returns : goal.returns
returns c =
    let a = c.args in
    let l = c.loop-r in
    record {
      room = l.invariant.room;
      held = gathers-end (children_in a.kinds.now a.bases.now a.arities.now a.arguments.now
          a.rowfunctions.now a.cells.now) a.order.now l.list l.m l.r-index l.invariant (omega arith);
    }
