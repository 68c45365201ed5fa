-- `table_flat::rows::lay_heads` meets its contract. The rows below place `k` are laid. Assumes nothing.
use Rattle.table_flat.specs.Rows.{head_in}
use Rattle.table_flat.proofs.FillLaws.{mapping-start, mapping-step, mapping-end}
use native.Mathlib.Omega.{arith}
use Rattle.table_flat.proofs.rows.lay_heads.Goals as goal

pub loop-k-init : goal.loop-k-init
loop-k-init c =
    let a = c.args in
    mapping-start (head_in a.declared.now a.costs.now a.rowfunctions.now) a.order.now
    a.list.now
    c.requires.order_in_bounds

pub loop-k-preserved : goal.loop-k-preserved
loop-k-preserved c =
    let a = c.args in
    let l = c.loop-k in
    mapping-step (head_in a.declared.now a.costs.now a.rowfunctions.now) a.order.now
    l.list l.k l.invariant (omega arith) c.head_of.result c.head_of.ensures

pub returns : goal.returns
returns c =
    let a = c.args in
    let l = c.loop-k in
    mapping-end (head_in a.declared.now a.costs.now a.rowfunctions.now) a.order.now
    l.list l.k l.invariant (omega arith)
