-- `text_counts::size` meets its contract: the table is right up to the term that is next. Assumes nothing.
use Rattle.text_counts.proofs.TallyLaws.{sizing-again}
use native.Mathlib.Omega.{arith}
use Rattle.text_counts.proofs.size.Goals as goal

pub size_of-requires : goal.size_of-requires
size_of-requires c =
    let l = c.loop-t in
    record {
      inside = rw c.children_of.ensures
          (λ i h. omega (
            arith,
            c.requires.linked.lower l.t c.loop-t-test.true i h,
            c.requires.n_in_bounds,
            l.invariant.long,
            c.loop-t-test.true,
          ));
      most = l.invariant.low;
    }

pub loop-t-preserved : goal.loop-t-preserved
loop-t-preserved c =
    let l = c.loop-t in
    sizing-again c.args.records.now c.args.n c.args.sizes.now l.sizes l.t c.size_of.result
    c.requires.linked c.loop-t-test.true
    c.requires.n_in_bounds (rw c.children_of.ensures at c.size_of.ensures) l.invariant
