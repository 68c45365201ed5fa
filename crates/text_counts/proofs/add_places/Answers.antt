-- `text_counts::add_places` meets its contract: the places passed are added. Assumes nothing.
use Rattle.text_counts.proofs.TallyLaws.{adding-none, adding-again}
use native.Mathlib.Omega.{arith}
use Rattle.text_counts.proofs.add_places.Goals as goal

pub loop-k-init : goal.loop-k-init
loop-k-init c = adding-none 65536 c.args.counts.now c.args.ks.now c.requires.most

pub loop-k-preserved : goal.loop-k-preserved
loop-k-preserved c =
    let l = c.loop-k in
    adding-again 65536 c.args.counts.now c.args.ks.now l.counts l.k-index l.invariant (omega arith)
    (c.requires.inside l.k-index (omega arith))
