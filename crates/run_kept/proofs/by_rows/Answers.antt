-- `by_rows` meets what it asks of others: the rows packed, then the variants, on lists of zeros. Assumes nothing.
use Prim.Native.Nat.{ℕ}
use mathlib.Core.Path.{refl, sym, ◌∙◌}
use lib.ListN.{length-replicate}
use borrow.Author.Tests.{not-false}
use Rattle.price.proofs.ZeroLaws.{take-zeros-length, blank-lists}
use Rattle.best_class.proofs.SolvedLaws.{pack-ready}
use Rattle.variants_root.proofs.SeveralLaws.{ready_with}
use Rattle.variants_root.proofs.PicksLaws.{some-few}
use native.Mathlib.Omega.{arith}
use Rattle.run_kept.proofs.by_rows.Goals as goal

pub fill-requires : goal.fill-requires
fill-requires c =
    let t = c.args.table.now in
    let r = c.requires in
    let n = length-replicate {A = ℕ} 12288 0 in
    record {
      pack_ready = pack-ready r.table r.root _ _ _ _ _ t.rows.functions t.functions.names t.literals r.is.is.is;
      width_in_bounds = omega (arith, n, r.is.is.is.flat.few_rows);
    }

pub decide-requires : goal.decide-requires
decide-requires c =
    let l = some-few c.requires in
    record {
      keyed_ready = record {
        order = _;
        functions = c.args.table.now.rows.functions;
        packed = c.fill.ensures;
        is = ready_with (take-zeros-length c.args.laid.classes 512 l)
            (record {
              table = c.requires.table;
              root = c.requires.root;
              is = c.requires.is.is;
              classes = c.requires.is.classes_are;
              formed = sym (rw c.lent.ensures at c.check.ensures) ∙ not-false _ c.if-not-check.false-raw;
            });
      };
      blank = blank-lists c.args.laid.classes 512 _ refl l;
    }
