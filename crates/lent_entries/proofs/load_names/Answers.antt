-- `lent_entries::load_names` meets its contract. Assumes nothing.
use Rattle.std.proofs.Common.{◌≡◌, ℕ, ◌<◌, ◌+◌, List, [], get_or, take, length-take, ◌∙◌, refl, sym, subst, ap, arith}
use Rattle.std.proofs.Math.Seq.{get_or-take}
use Rattle.name.specs.Entries.{put_entry}
use Rattle.lent_entries.proofs.EntriesLaws.{CopiedNames, copied_none, copied_more, copied-whole}
use Rattle.lent_entries.proofs.load_names.Goals as goal

pub loop-k-init : goal.loop-k-init
loop-k-init c = copied_none c.args.ns.now c.args.names.now

pub loop-k-preserved : goal.loop-k-preserved
loop-k-preserved c =
    let ns : List (List ℕ) = c.args.ns.now in
    let k : ℕ = c.loop-k.k in
    let less : k < c.min-n.result = omega (arith, length-take c.min-n.result ns) in
    let same : get_or (take c.min-n.result ns) k [] ≡ get_or ns k [] = get_or-take c.min-n.result ns k [] less in
    subst (CopiedNames ns (k + 1)) (sym (c.put_entry.ensures ∙ ap (put_entry c.loop-k.names k) same))
    (copied_more ns k c.loop-k.names (get_or ns k []) (omega arith) refl (c.told-ns k (omega arith)) (omega arith)
    c.loop-k.invariant)

pub returns : goal.returns
returns c =
    let all : c.loop-k.k ≡ c.min-n.result = omega (arith, length-take c.min-n.result c.args.ns.now) in
    copied-whole c.args.ns.now c.min-n.result c.args.names.now c.loop-k.names (omega arith) c.loop-k.auto.names
    (subst (λ (k : ℕ). CopiedNames c.args.ns.now k c.loop-k.names) all c.loop-k.invariant)
