-- `prepare::flatten` meets its contract: the first class of each sort, the scan order, the flat rows. Assumes nothing.
use Prim.Native.Nat.{◌≤◌}
use mathlib.Core.Path.{sym}
use native.Mathlib.Omega.{arith}
use lib.ListN.{length}
use lib.Seq.{length-take-le}
use Rattle.table_rows.proofs.prepare.FlatLaws.{sorts_few, classes-long, count-few, scan-ready, lay-ready, lay-room, flattened}
use Rattle.table_rows.proofs.prepare.flatten.Goals as goal

pub number_sorts-total-requires : goal.number_sorts-total-requires
number_sorts-total-requires c =
    let a = c.args in
    let few = sorts_few a.counts a.table.now c.requires.some.table c.requires.some.is in
    record {
      sorts_in_bounds = (
        classes-long a.counts a.table.now c.requires.some.table
            c.requires.some.is,
        omega arith,
      );
      sorts_bound = count-few a.counts a.table.now c.requires.some.table c.requires.some.is;
    }

pub scan_rows-n-requires : goal.scan_rows-n-requires
scan_rows-n-requires c =
    let a = c.args in
    scan-ready a.counts a.table.now c.requires.some.table c.requires.some.is
    a.roots.now c.requires.within a.order.now c.requires.space.order_room

pub slice_bounds-lay-end-2 : goal.slice_bounds-lay-end-2
slice_bounds-lay-end-2 c =
    let w = c.scan_rows-n in
    sym (length-take-le w.result w.new.order w.ensures.room)

pub lay-m-requires : goal.lay-m-requires
lay-m-requires c =
    let a = c.args in
    let w = c.scan_rows-n in
    let u = c.number_sorts-total in
    let few = sorts_few a.counts a.table.now c.requires.some.table c.requires.some.is in
    let long : a.counts.sorts ≤ length u.new.bases = omega (arith, u.auto.bases) in
    record {
      rows_fit = lay-ready a.counts a.table.now c.requires.some.table c.requires.some.is
          a.roots.now c.requires.within w.result w.new.order w.ensures
          u.new.bases u.ensures.bases long;
      room = lay-room a.counts a.table.now c.requires.some.table c.requires.some.is
          a.roots.now c.requires.within w.result w.new.order w.ensures
          u.new.bases u.ensures.bases long
          a.flat.now a.heads.now a.starts.now a.children.now c.requires.space.flat_room
          c.requires.space.heads_room c.requires.space.starts_room c.requires.space.children_room;
    }

pub returns : goal.returns
returns c t h =
    let a = c.args in
    let w = c.scan_rows-n in
    let u = c.number_sorts-total in
    let v = c.lay-m in
    let few = sorts_few a.counts a.table.now t h in
    let long : a.counts.sorts ≤ length u.new.bases = omega (arith, u.auto.bases) in
    flattened a.counts a.table.now t h
    a.roots.now c.requires.within w.result w.new.order w.ensures
    u.new.bases u.ensures.bases long
    v.result _ v.new.classes v.new.heads
    v.new.starts v.new.children u.ensures.value
    v.ensures
