-- `kept_rows::decide` meets its contract: what is kept answers as the definition says. Assumes nothing.
use mathlib.Core.Path.{sym}
use Prim.Native.Nat.{ℕ}
use lib.ListN.{length-replicate}
use lib.Seq.{length-take-le}
use Rattle.term_add.specs.Held.{held}
use Rattle.variants_root.proofs.PicksLaws.{picks-of-keyed}
use native.Mathlib.Omega.{arith}
use Rattle.variants_root.proofs.kept_rows.decide.Goals as goal

pub keep-choice-requires : goal.keep-choice-requires
keep-choice-requires c =
    let k = c.requires.keyed_ready in
    let n = length-replicate {A = ℕ} 1024 0 in
    record {
      packed_ready = record {
        table = k.is.table;
        root = k.is.root;
        order = k.order;
        functions = k.functions;
        values = c.args.values.now;
        packed = k.packed;
        is = k.is.is;
        classes = k.is.classes;
      };
      blank = c.requires.blank;
      prices_room = omega (arith, n);
      list_room = n;
    }

pub slice_bounds-list-end : goal.slice_bounds-list-end
slice_bounds-list-end c = (picks-of-keyed _ _ c.requires.keyed_ready c.keep-choice.ensures).room

pub slice_bounds-answer-end-2 : goal.slice_bounds-answer-end-2
slice_bounds-answer-end-2 c =
    let p = picks-of-keyed _ _ c.requires.keyed_ready c.keep-choice.ensures in
    sym (length-take-le c.keep-choice.result.count c.keep-choice.new.list p.room)

pub answer-requires : goal.answer-requires
answer-requires c = (picks-of-keyed _ _ c.requires.keyed_ready c.keep-choice.ensures).ready

pub returns-clause-variants : goal.returns-clause-variants
returns-clause-variants c order functions pk t root v e =
    let a = c.args in
    let formed = c.requires.keyed_ready.is.formed in
    (c.keep-choice.ensures order functions a.values.now pk t root v e (held a.store.now) formed).answers a.paid.now
    a.found.now _ c.answer.ensures.variants
