-- `best_root::of_class` meets its contract: the store is checked, then the term chosen. Assumes nothing.
use Prim.Native.Nat.{◌+◌}
use mathlib.Core.Path.{sym, ◌∙◌}
use native.Mathlib.Omega.{arith}
use borrow.Author.Tests.{not-true, not-false}
use lib.Seq.{length-take-le}
use Rattle.term_add.specs.Held.{held}
use Rattle.best_root.proofs.SingleLaws.{unformed-refuses, formed-is}
use Rattle.best_root.proofs.of_class.Goals as goal

pub returns-then-not-check-clause-best : goal.returns-then-not-check-clause-best
returns-then-not-check-clause-best c t root v =
    let a = c.args in
    unformed-refuses (held a.store.now) _
    (sym (rw c.lent.ensures at c.check.ensures) ∙ not-true _ c.if-not-check.true-raw)

pub slice_bounds-choose-end : goal.slice_bounds-choose-end
slice_bounds-choose-end c = sym (length-take-le c.args.n c.args.flat.now c.requires.is.flattened.flat_room)

pub slice_bounds-choose-end-2 : goal.slice_bounds-choose-end-2
slice_bounds-choose-end-2 c =
    sym (length-take-le c.args.n c.args.heads.now c.requires.is.flattened.heads_room)

pub slice_bounds-choose-end-3 : goal.slice_bounds-choose-end-3
slice_bounds-choose-end-3 c =
    let l = c.requires.is.flattened.starts_room in
    sym (length-take-le (c.args.n + 1) c.args.starts.now (omega (arith, l)))

pub slice_bounds-choose-end-4 : goal.slice_bounds-choose-end-4
slice_bounds-choose-end-4 c =
    sym (length-take-le c.args.m c.args.children.now c.requires.is.flattened.children_room)

pub slice_bounds-choose-end-5 : goal.slice_bounds-choose-end-5
slice_bounds-choose-end-5 c =
    sym (length-take-le c.args.n c.args.order.now c.requires.is.flattened.order_room)

pub choose-requires : goal.choose-requires
choose-requires c =
    let p = c.requires in
    record {
      table = p.table;
      root = p.root;
      is = p.is.is;
      classes = p.is.flattened.classes_are;
      class = p.is.class;
      formed = sym (rw c.lent.ensures at c.check.ensures) ∙
          not-false _ c.if-not-check.false-raw;
    }

pub returns-clause-best : goal.returns-clause-best
returns-clause-best c t root v =
    let a = c.args in
    c.choose.ensures.best t root v.is v.flattened.classes_are
    ∙ formed-is (held a.store.now) _
    (sym (rw c.lent.ensures at c.check.ensures) ∙ not-false _ c.if-not-check.false-raw)
