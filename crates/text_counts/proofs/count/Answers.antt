-- `text_counts::count` meets its contract: the terms from t on have given their places. Assumes nothing.
use Prim.Native.Nat.{ℕ, ◌+◌, ◌*◌, ◌-◌, ◌<◌, ◌≤◌}
use mathlib.Core.List.{List}
use lib.ListN.{length, set, length-set}
use Rattle.text_counts.specs.Tallies.{Linked}
use Rattle.text_counts.proofs.TallyLaws.{kids-few, most-more, Counting, counting-none, counting-again, counting-end}
use native.Mathlib.Omega.{arith}
use Rattle.text_counts.proofs.count.Goals as goal

-- the invariant, at what the call requires
inv :
    (rs : List ℕ) (n : ℕ) (w : Linked rs n) (p : 0 < n) (start counts : List ℕ) (t : ℕ) →
    ((w : Linked rs n) (k : n - 1 < n) → Counting rs n w k (set start (n - 1) 1) counts t) →
    Counting rs n w (omega arith) (set start (n - 1) 1) counts t
inv rs n w p start counts t v = v w (omega arith)

pub loop-t-init : goal.loop-t-init
loop-t-init c =
    λ w k.
    counting-none c.args.records.now c.args.n w k c.args.counts.now
    c.requires.n_in_bounds c.requires.most

pub give_on-requires : goal.give_on-requires
give_on-requires c =
    let l = c.loop-t in
    let v = inv c.args.records.now c.args.n c.requires.linked c.requires.n_nonzero c.args.counts.now l.counts l.t
    l.invariant in
    let k : l.t - 1 < c.args.n = omega (arith, v.at) in
    let r : c.args.n ≤ length l.counts = omega (
      arith,
      v.long,
      length-set c.args.counts.now (c.args.n - 1) 1,
      c.requires.n_in_bounds,
    ) in
    record {
      t_in_bounds = omega arith;
      inside = rw c.children_of.ensures (λ i h. omega (arith, c.requires.linked.lower (l.t - 1) k i h));
      ks_len_bound = rw c.children_of.ensures (kids-few c.args.records.now c.args.n (l.t - 1) c.requires.linked k);
      most = most-more (1 + 8 * (c.args.n - l.t)) 65536 l.counts v.low (omega (arith, c.requires.linked.few));
    }

pub loop-t-preserved : goal.loop-t-preserved
loop-t-preserved c =
    let l = c.loop-t in
    λ w k.
    let v = inv c.args.records.now c.args.n c.requires.linked c.requires.n_nonzero c.args.counts.now l.counts l.t
    l.invariant in
    let r : c.args.n ≤ length l.counts =
    omega (arith, v.long, length-set c.args.counts.now (c.args.n - 1) 1, c.requires.n_in_bounds) in
    counting-again c.args.records.now c.args.n w k
    (set c.args.counts.now (c.args.n - 1) 1) l.counts
    c.give_on.new.counts l.t (l.invariant w k) (omega arith) r
    c.give_on.auto.counts
    (rw c.children_of.ensures at c.give_on.ensures)

pub returns : goal.returns
returns c =
    let k : c.args.n - 1 < c.args.n = omega (arith, c.requires.n_nonzero) in
    counting-end c.args.records.now c.args.n c.requires.linked k (set c.args.counts.now (c.args.n - 1) 1)
    c.loop-t.counts c.loop-t.t (omega arith) (c.loop-t.invariant c.requires.linked k)
