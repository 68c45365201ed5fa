-- `table_flat::rows::lay_starts` meets its contract. The starts up to place `k` are laid. Assumes nothing.
use mathlib.Core.Path.{refl}
use lib.ListN.{get_or}
use Rattle.table_flat.specs.Arrays.{arity_in}
use Rattle.table_flat.proofs.FillLaws.{summing_start, summing-step, summing-end}
use native.Mathlib.Omega.{arith}
use Rattle.table_flat.proofs.rows.lay_starts.Goals as goal

pub loop-k-init : goal.loop-k-init
loop-k-init c =
    let a = c.args in
    summing_start (arity_in a.arities.now a.rowfunctions.now) a.order.now a.starts.now
    c.requires.order_len_bound.1

pub overflow_add-at : goal.overflow_add-at
overflow_add-at c =
    omega (
      arith,
      (c.requires.each c.loop-k.k (omega arith)).most,
      c.loop-k.invariant.small,
    )

pub loop-k-preserved : goal.loop-k-preserved
loop-k-preserved c =
    let a = c.args in
    let l = c.loop-k in
    let r = get_or a.order.now l.k 0 in
    summing-step (arity_in a.arities.now a.rowfunctions.now) a.order.now l.starts l.at l.k
    l.invariant (omega arith) (arity_in a.arities.now a.rowfunctions.now r) refl
    (c.requires.each l.k (omega arith)).most

pub returns : goal.returns
returns c =
    let a = c.args in
    let l = c.loop-k in
    summing-end (arity_in a.arities.now a.rowfunctions.now) a.order.now l.starts l.at l.k
    l.invariant (omega arith)
