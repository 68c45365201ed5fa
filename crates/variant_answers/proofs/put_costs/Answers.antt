-- `variant_answers::put_costs` meets its contract: the first k costs are in their places. Assumes nothing.
use mathlib.Core.Path.{◌≡◌, refl, ap, ◌∙◌}
use mathlib.Core.List.{List}
use Prim.Native.Nat.{ℕ}
use lib.ListN.{length, get_or, set, length-set}
use lib.Seq.{paste, paste-zero}
use Rattle.variant_answers.specs.Kept.{prices_of}
use Rattle.variant_answers.proofs.LoopLaws.{costs-more}
use native.Mathlib.Omega.{arith}
use Rattle.variant_answers.proofs.put_costs.Goals as goal

pub loop-k-init : goal.loop-k-init
loop-k-init c =
    let a = c.args in
    (omega arith, refl, paste-zero a.out.now 0 (prices_of a.prices.now a.list.now))

pub offset_bounds-prices-i : goal.offset_bounds-prices-i
offset_bounds-prices-i c =
    let l = c.loop-k in
    let p = c.requires.all_below l.k c.loop-k-test.true in
    omega (arith)

pub bounds-prices-i : goal.bounds-prices-i
bounds-prices-i c =
    let l = c.loop-k in
    c.requires.all_below l.k c.loop-k-test.true

pub bounds-out-k : goal.bounds-out-k
bounds-out-k c =
    let l = c.loop-k in
    let t = c.loop-k-test.true in
    omega (arith, c.requires.list_in_bounds, l.invariant.1)

pub loop-k-preserved : goal.loop-k-preserved
loop-k-preserved c =
    let a = c.args in
    let l = c.loop-k in
    let t = c.loop-k-test.true in
    let r = c.requires.list_in_bounds in
    let w = get_or a.prices.now (get_or a.list.now l.k 0) 0 in (
      omega arith,
      length-set l.out l.k w ∙ l.invariant.1,
      ap (λ (x : List ℕ). set x l.k w) l.invariant.2
          ∙ costs-more a.prices.now a.list.now a.out.now l.k t r,
    )

pub returns : goal.returns
returns c =
    let a = c.args in
    let l = c.loop-k in
    let e : l.k ≡ length a.list.now = omega (arith, l.invariant.0, c.loop-k-test.false) in
    l.invariant.2 ∙ ap (paste a.out.now 0 (prices_of a.prices.now a.list.now)) e
