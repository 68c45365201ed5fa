-- `candidates::price` meets its contract: the row's children are a part of the list. Assumes nothing.
use Prim.Native.Nat.{◌+◌, ◌-◌}
use lib.ListN.{get_or, length}
use Rattle.price_passes.proofs.FlatLaws.{part_in}
use native.Mathlib.Omega.{arith}
use Rattle.variant_rows.proofs.candidates.price.Goals as goal

pub offset_bounds-rows-a : goal.offset_bounds-rows-a
offset_bounds-rows-a c =
    let a = c.args in
    let r = c.requires.parts_in.rise a.i c.requires.i_in_bounds in
    let q = c.requires.parts_in.inside a.i c.requires.i_in_bounds in
    omega (arith)

pub slice_bounds-cost-count : goal.slice_bounds-cost-count
slice_bounds-cost-count c =
    let a = c.args in
    c.requires.parts_in.rise a.i c.requires.i_in_bounds

pub slice_bounds-cost-start : goal.slice_bounds-cost-start
slice_bounds-cost-start c =
    let a = c.args in
    let r = c.requires.parts_in.rise a.i c.requires.i_in_bounds in
    let q = c.requires.parts_in.inside a.i c.requires.i_in_bounds in
    omega arith

pub slice_bounds-cost-end : goal.slice_bounds-cost-end
slice_bounds-cost-end c =
    let a = c.args in
    let r = c.requires.parts_in.rise a.i c.requires.i_in_bounds in
    let q = c.requires.parts_in.inside a.i c.requires.i_in_bounds in
    omega arith

pub cost-requires : goal.cost-requires
cost-requires c =
    let a = c.args in
    part_in (length a.costs.now) (get_or a.rows.now.starts.now (a.i + 1) 0 - get_or a.rows.now.starts.now a.i 0)
    (get_or a.rows.now.starts.now a.i 0) a.rows.now.children.now c.requires.parts_in.kids
