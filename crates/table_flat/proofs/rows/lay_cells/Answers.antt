-- `table_flat::rows::lay_cells` meets its contract. What is laid and the cells from `j` on give what is wanted. Assumes
-- nothing.
use Prim.Native.Nat.{◌+◌}
use mathlib.Core.Path.{◌≡◌}
use mathlib.Core.List.{◌++◌}
use lib.ListN.{length, take}
use Rattle.table_flat.specs.Rows.{child_numbers}
use Rattle.table_flat.proofs.ChildLaws.{laying-start, laying-fits, laying-end, laying-room, laying-step}
use native.Mathlib.Omega.{arith}
use Rattle.table_flat.proofs.rows.lay_cells.Goals as goal

pub loop-j-init : goal.loop-j-init
loop-j-init c =
    let a = c.args in
    let e : a.at + 0 ≡ a.at = omega arith in
    rw e (laying-start a.kinds.now a.bases.now a.sorts.now a.cells.now c.requires.cells_len a.list.now a.at
    c.requires.sorts_in_bounds)

pub child_of-requires : goal.child_of-requires
child_of-requires c =
    let p = c.requires.cells_fit in
    let j = c.loop-j.j in
    record {
      s_in_bounds = (p.kind j (omega arith), p.base j (omega arith));
      s_bound = (
        p.base_small j (omega arith),
        p.cell_small j
            (omega arith),
      );
    }

pub bounds-list-at : goal.bounds-list-at
bounds-list-at c =
    let a = c.args in
    let l = c.loop-j in
    let w = laying-fits a.kinds.now a.bases.now a.sorts.now a.cells.now c.requires.cells_len a.list.now
    a.at c.requires.sorts_in_bounds in
    laying-room a.kinds.now a.bases.now a.sorts.now a.cells.now c.requires.cells_len
    (take a.at a.list.now ++ child_numbers a.kinds.now a.bases.now a.sorts.now a.cells.now)
    l.list (a.at + l.j) l.j l.invariant (omega arith) (omega (arith, w, l.auto.list))

pub loop-j-preserved : goal.loop-j-preserved
loop-j-preserved c =
    let a = c.args in
    let l = c.loop-j in
    let w = laying-fits a.kinds.now a.bases.now a.sorts.now a.cells.now c.requires.cells_len a.list.now
    a.at c.requires.sorts_in_bounds in
    let want = take a.at a.list.now
    ++ child_numbers a.kinds.now a.bases.now a.sorts.now a.cells.now in
    let r = laying-room a.kinds.now a.bases.now a.sorts.now a.cells.now c.requires.cells_len want
    l.list (a.at + l.j) l.j l.invariant (omega arith) (omega (arith, w, l.auto.list)) in
    let e : a.at + (l.j + 1) ≡ a.at + l.j + 1 = omega arith in
    rw e (laying-step a.kinds.now a.bases.now a.sorts.now a.cells.now c.requires.cells_len want
    l.list (a.at + l.j) l.j l.invariant (omega arith) r c.child_of.result c.child_of.ensures)

pub returns : goal.returns
returns c =
    let a = c.args in
    let l = c.loop-j in
    let e : l.j ≡ length a.sorts.now = omega arith in
    let v = rw e at l.invariant in
    record {
      room = v.room;
      held = laying-end a.kinds.now a.bases.now a.sorts.now a.cells.now c.requires.cells_len
          (take a.at a.list.now ++ child_numbers a.kinds.now a.bases.now a.sorts.now
          a.cells.now)
          l.list (a.at + length a.sorts.now) (length a.sorts.now) v (omega arith);
    }
