-- `table_flat::rows::lay_outputs` meets its contract. The rows below place `k` are laid. Assumes nothing.
use Rattle.table_flat.specs.Rows.{output_in}
use Rattle.table_flat.proofs.FillLaws.{mapping-start, mapping-step, mapping-end}
use native.Mathlib.Omega.{arith}
use Rattle.table_flat.proofs.rows.lay_outputs.Goals as goal

pub loop-k-init : goal.loop-k-init
loop-k-init c =
    let a = c.args in
    mapping-start (output_in a.bases.now a.arities.now a.outputs.now a.rowfunctions.now
    a.cells.now)
    a.order.now a.list.now c.requires.order_in_bounds

pub loop-k-preserved : goal.loop-k-preserved
loop-k-preserved c =
    let a = c.args in
    let l = c.loop-k in
    mapping-step (output_in a.bases.now a.arities.now a.outputs.now a.rowfunctions.now
    a.cells.now)
    a.order.now l.list l.k l.invariant (omega arith) c.output_of.result c.output_of.ensures

pub returns : goal.returns
returns c =
    let a = c.args in
    let l = c.loop-k in
    mapping-end (output_in a.bases.now a.arities.now a.outputs.now a.rowfunctions.now
    a.cells.now)
    a.order.now l.list l.k l.invariant (omega arith)
