-- `text_counts::size_of` meets its contract: the children passed are summed. Assumes nothing.
use Rattle.text_counts.proofs.TallyLaws.{summing-again, summing-end}
use native.Mathlib.Omega.{arith}
use Rattle.text_counts.proofs.size_of.Goals as goal

pub loop-k-preserved : goal.loop-k-preserved
loop-k-preserved c =
    let l = c.loop-k in
    summing-again c.args.sizes.now c.args.ks.now l.size l.k-index c.min-size.result (omega arith)
    (omega (arith, c.min-size.ensures)) l.invariant

pub returns : goal.returns
returns c =
    let l = c.loop-k in
    summing-end c.args.sizes.now c.args.ks.now l.size l.k-index (omega arith) l.invariant
