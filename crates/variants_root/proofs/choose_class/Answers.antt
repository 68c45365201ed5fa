-- `variants_root::choose_class` meets its contract: the store is checked, the rows packed, then the rows are kept.
-- Assumes nothing.
use Prim.Native.Nat.{◌+◌}
use mathlib.Core.Path.{refl, sym, ◌∙◌}
use borrow.Author.Tests.{not-true, not-false}
use lib.Seq.{length-take-le}
use Rattle.best_class.proofs.SolvedLaws.{pack-ready}
use Rattle.variant_answers.specs.Kept.{lending}
use Rattle.variants_root.specs.Chosen.{PicksOr}
use Rattle.variants_root.proofs.SeveralLaws.{unformed-refuses, blank-ranks, picks-formed, laid-few}
use native.Mathlib.Omega.{arith}
use Rattle.variants_root.proofs.choose_class.Goals as goal

pub returns-then-not-check : goal.returns-then-not-check
unfolding PicksOr
returns-then-not-check c s is values t root v ws ts =
    unformed-refuses (lending s ws ts) _ (is ∙ sym c.check.ensures ∙ not-true _ c.if-not-check.true-raw)

pub slice_bounds-fill-end : goal.slice_bounds-fill-end
slice_bounds-fill-end c = sym (length-take-le c.args.n c.args.order.now c.requires.table.is.order_room)

pub slice_bounds-fill-end-2 : goal.slice_bounds-fill-end-2
slice_bounds-fill-end-2 c = sym (length-take-le c.args.n c.args.flat.now c.requires.table.is.flat_room)

pub slice_bounds-fill-end-3 : goal.slice_bounds-fill-end-3
slice_bounds-fill-end-3 c =
    let l = c.requires.table.is.starts_room in
    sym (length-take-le (c.args.n + 1) c.args.starts.now (omega (arith, l)))

pub slice_bounds-fill-end-4 : goal.slice_bounds-fill-end-4
slice_bounds-fill-end-4 c = sym (length-take-le c.args.m c.args.children.now c.requires.table.is.children_room)

pub fill-requires : goal.fill-requires
fill-requires c =
    let a = c.args in
    let r = c.requires.table in
    record {
      pack_ready = pack-ready r.table r.root _ _ _ _ _ _ a.labels.now r.values r.is.is.is;
      width_in_bounds = omega (arith, c.requires.rows_room, r.is.is.is.flat.few_rows);
    }

pub keep-requires : goal.keep-requires
keep-requires c =
    let r = c.requires.table in
    let l = laid-few r in
    record {
      packed_ready = record {
        table = r.table;
        root = r.root;
        order = _;
        functions = c.args.functions.now;
        values = r.values;
        packed = c.fill.ensures;
        is = r.is.is;
        classes = r.is.classes_are;
      };
      blank = blank-ranks 512 _ c.args.ranks.now c.args.edges.now refl l c.requires.ranks_zero c.requires.as_many_edges;
      prices_room = c.requires.prices_room;
      list_room = c.requires.list_room;
    }

pub returns : goal.returns
unfolding PicksOr
returns c s is values t root v =
    let formed = is ∙ sym c.check.ensures ∙ not-false _ c.if-not-check.false-raw in
    picks-formed _ _ _ _ _ _ _ _ _ _ formed
    (c.keep.ensures _ c.args.functions.now values c.fill.ensures t root v.is v.classes_are s formed)
