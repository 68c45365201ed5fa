-- `lent_entries::unload_names` meets its contract. Assumes nothing.
use Rattle.std.proofs.Common.{◌≡◌, ℕ, ap, ◌∙◌, List, set, arith}
use Rattle.lent_entries.proofs.EntriesLaws.{put_to, put_to-none, put_to-more, put_to-whole}
use Rattle.lent_entries.proofs.unload_names.Goals as goal

pub loop-k-init : goal.loop-k-init
loop-k-init c = put_to-none c.args.ns.now c.args.names.now

pub loop-k-preserved : goal.loop-k-preserved
loop-k-preserved c =
    ap (λ (t : List (List ℕ)). set t c.loop-k.k c.entry_of.result) c.loop-k.invariant
    ∙ put_to-more c.args.ns.now c.args.names.now c.entry_of.result c.loop-k.k (omega arith) c.entry_of.ensures

pub returns : goal.returns
returns c =
    let all : c.loop-k.k ≡ c.min-n.result = omega arith in
    c.loop-k.invariant
    ∙ ap (put_to c.args.ns.now c.args.names.now) all
    ∙ put_to-whole c.args.ns.now c.args.names.now c.min-n.result (omega arith)
