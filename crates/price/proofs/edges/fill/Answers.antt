-- `edges::fill` meets its contract: every class has been looked for among the rows before the i-th. Assumes
-- nothing.
use Prim.Native.Nat.{◌+◌, ◌-◌}
use mathlib.Core.Path.{refl}
use lib.ListN.{length, get_or}
use Rattle.price_passes.proofs.FlatLaws.{part_in}
use Rattle.price.proofs.edges.WalkLaws.{flat-walk-begins, flat-walk-goes-on, flat-walk-ends}
use native.Mathlib.Omega.{arith}
use Rattle.price.proofs.edges.fill.Goals as goal

pub loop-i-init : goal.loop-i-init
loop-i-init c =
    let a = c.args in
    let e = c.fill in (
      refl,
      flat-walk-begins a.costs.now a.ranks.now a.rows.now e.new.self (length a.edges.now) (length a.rows.now.outputs.now) refl
          c.requires.edges_len
          (e.ensures.after (λ y h. h)),
    )

pub mark-requires : goal.mark-requires
mark-requires c =
    let a = c.args in
    let l = c.loop-i in
    let from = get_or a.rows.now.starts.now l.i 0 in
    record {
      edges_len = l.invariant.1.long;
      costs_len = c.requires.costs_len;
      output_in_bounds = c.requires.flat_ok.outputs_in l.i (omega arith);
      children_in = part_in (length a.ranks.now) (get_or a.rows.now.starts.now (l.i + 1) 0 - from) from a.rows.now.children.now
          c.requires.flat_ok.children_in;
    }

pub loop-i-preserved : goal.loop-i-preserved
loop-i-preserved c =
    let a = c.args in
    let l = c.loop-i in
    let r = c.mark in (
      l.invariant.0,
      flat-walk-goes-on a.costs.now a.ranks.now a.rows.now l.edges l.i l.invariant.1 (length a.rows.now.outputs.now) refl (omega arith)
          c.requires.flat_ok
          r.new.edges r.ensures,
    )

pub returns : goal.returns
returns c =
    let a = c.args in
    let l = c.loop-i in
    flat-walk-ends a.costs.now a.ranks.now a.rows.now
    l.edges l.i l.invariant.1 (omega arith)
