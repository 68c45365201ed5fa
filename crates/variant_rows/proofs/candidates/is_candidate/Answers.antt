-- `candidates::is_candidate` meets its contract: by the class, then by the children. Assumes nothing.
use Prim.Native.Nat.{◌+◌, ◌-◌}
use lib.ListN.{get_or, length}
use Rattle.price_passes.proofs.FlatLaws.{part_in}
use Rattle.variant_rows.proofs.candidates.FoundLaws.{candidate-no, candidate-yes}
use native.Mathlib.Omega.{arith}
use Rattle.variant_rows.proofs.candidates.is_candidate.Goals as goal

pub returns-then-rows-i : goal.returns-then-rows-i
returns-then-rows-i c =
    let a = c.args in
    candidate-no a.ranks.now a.rows.now.outputs.now a.rows.now.starts.now a.rows.now.children.now a.c a.i c.if-rows-i.true

pub offset_bounds-rows-a : goal.offset_bounds-rows-a
offset_bounds-rows-a c =
    let a = c.args in
    let r = c.requires.parts_in.rise a.i c.requires.i_in_bounds in
    let q = c.requires.parts_in.inside a.i c.requires.i_in_bounds in
    omega (arith)

pub slice_bounds-has_cost-count : goal.slice_bounds-has_cost-count
slice_bounds-has_cost-count c =
    let a = c.args in
    c.requires.parts_in.rise a.i c.requires.i_in_bounds

pub slice_bounds-has_cost-start : goal.slice_bounds-has_cost-start
slice_bounds-has_cost-start c =
    let a = c.args in
    let r = c.requires.parts_in.rise a.i c.requires.i_in_bounds in
    let q = c.requires.parts_in.inside a.i c.requires.i_in_bounds in
    omega arith

pub slice_bounds-has_cost-end : goal.slice_bounds-has_cost-end
slice_bounds-has_cost-end c =
    let a = c.args in
    let r = c.requires.parts_in.rise a.i c.requires.i_in_bounds in
    let q = c.requires.parts_in.inside a.i c.requires.i_in_bounds in
    omega arith

pub has_cost-requires : goal.has_cost-requires
has_cost-requires c =
    let a = c.args in
    part_in (length a.ranks.now) (get_or a.rows.now.starts.now (a.i + 1) 0 - get_or a.rows.now.starts.now a.i 0)
    (get_or a.rows.now.starts.now a.i 0) a.rows.now.children.now c.requires.parts_in.kids

pub returns : goal.returns
returns c =
    let a = c.args in
    candidate-yes a.ranks.now a.rows.now.outputs.now a.rows.now.starts.now a.rows.now.children.now a.c a.i
    c.has_cost.result c.if-rows-i.false c.has_cost.ensures
