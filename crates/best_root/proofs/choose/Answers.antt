-- `best_root::choose` meets its contract: the rows packed, then the choice, on lists of zeros. Assumes nothing.
use Prim.Native.Nat.{ℕ}
use mathlib.Core.Path.{refl, sym, ◌∙◌}
use native.Mathlib.Omega.{arith}
use lib.ListN.{length-replicate}
use Rattle.price.proofs.ZeroLaws.{take-zeros-length, blank-lists}
use Rattle.best_class.proofs.SolvedLaws.{pack-ready}
use Rattle.best_root.proofs.SingleLaws.{few_classes, ready_with}
use Rattle.best_root.proofs.choose.Goals as goal

pub fill-requires : goal.fill-requires
fill-requires c =
    let a = c.args in
    let r = c.requires in
    let n = length-replicate {A = ℕ} 12288 0 in
    record {
      pack_ready = pack-ready r.table r.root a.outputs.now a.heads.now a.starts.now a.children.now
          a.order.now a.functions.now a.labels.now a.values.now r.is;
      width_in_bounds = omega (arith, n, r.is.flat.few_rows);
    }

pub slice_bounds-decide-end-2 : goal.slice_bounds-decide-end-2
slice_bounds-decide-end-2 c = take-zeros-length c.args.w 512 (few_classes c.requires)

pub slice_bounds-decide-end-3 : goal.slice_bounds-decide-end-3
slice_bounds-decide-end-3 c = take-zeros-length c.args.w 512 (few_classes c.requires)

pub slice_bounds-decide-end-4 : goal.slice_bounds-decide-end-4
slice_bounds-decide-end-4 c = take-zeros-length c.args.w 512 (few_classes c.requires)

pub decide-choice-requires : goal.decide-choice-requires
decide-choice-requires c =
    let l = few_classes c.requires in
    record {
      rows_ready = record {
        order = c.args.order.now;
        functions = c.args.functions.now;
        packed = c.fill.ensures;
        is = ready_with (take-zeros-length c.args.w 512 l) c.requires;
      };
      blank = blank-lists c.args.w 512 _ refl l;
    }

pub returns-clause-best : goal.returns-clause-best
returns-clause-best c t root v e =
    let l = few_classes c.requires in
    let d = c.decide-choice in
    d.ensures.best c.args.order.now c.args.functions.now c.fill.ensures t root v
    (sym (take-zeros-length c.args.w 512 l) ∙ e)
