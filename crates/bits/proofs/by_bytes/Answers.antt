-- `bits::by_bytes` meets its contract: what is gathered is the number of the bits so far, and while bits are left the
-- next one begins a byte. Assumes nothing.
use Prim.Native.Nat.{◌-◌, ◌+◌, ◌*◌, ◌/◌}
use mathlib.Core.Path.{◌≡◌, sym, ap, ◌∙◌}
use native.Mathlib.Omega.{arith}
use Rattle.bits.specs.Bits.{number}
use Rattle.bits.proofs.SplitLaws.{number-split, number-split-lt, bytes-all, bytes-room, byte-small, bytes-more}
use Rattle.bits.proofs.by_bytes.Goals as goal

pub overflow_mul-v : goal.overflow_mul-v
overflow_mul-v c =
    let a = c.args in
    let r = c.requires in
    let l = c.loop-b.invariant in
    omega (
      arith,
      bytes-room a.s.now a.at a.width _ r.width_bound_2 c.min-head.ensures l c.loop-b-test.true r.width_bound_3,
    )

pub overflow_add-v : goal.overflow_add-v
overflow_add-v c =
    let a = c.args in
    let r = c.requires in
    let l = c.loop-b.invariant in
    let o = c.loop-b-test.true in
    omega (
      arith,
      bytes-room a.s.now a.at a.width _ r.width_bound_2 c.min-head.ensures l o r.width_bound_3,
      byte-small a.s.now a.at a.width _ r.width_bound_2 c.min-head.ensures l o c.from.ensures
          (λ j. (c.type_inv.s j).fits),
    )

pub loop-b-preserved : goal.loop-b-preserved
loop-b-preserved c =
    let a = c.args in
    bytes-more a.s.now a.at a.width _ c.requires.width_bound_2 c.min-head.ensures c.loop-b.invariant c.loop-b-test.true
    c.from.ensures (λ j. (c.type_inv.s j).fits)

pub overflow_mul-result : goal.overflow_mul-result
overflow_mul-result c =
    let a = c.args in
    let l = c.loop-b in
    let i = c.min-head.result + 8 * ((a.width - c.min-head.result) / 8) in
    let v =
    bytes-all a.s.now a.at a.width _ c.requires.width_bound_2 c.min-head.ensures l.invariant l.auto.b-index-end
    c.loop-b-test.false in
    rw (c.power.ensures, v) (omega (arith, number-split-lt a.s.now a.at i (a.width - i) (omega arith) (omega arith)))

pub overflow_add-result : goal.overflow_add-result
overflow_add-result c =
    let a = c.args in
    let l = c.loop-b in
    let i = c.min-head.result + 8 * ((a.width - c.min-head.result) / 8) in
    let v =
    bytes-all a.s.now a.at a.width _ c.requires.width_bound_2 c.min-head.ensures l.invariant l.auto.b-index-end
    c.loop-b-test.false in
    rw (c.power.ensures, v, c.within-rest.ensures)
    (omega (arith, number-split-lt a.s.now a.at i (a.width - i) (omega arith) (omega arith)))

pub returns : goal.returns
returns c =
    let a = c.args in
    let l = c.loop-b in
    let i = c.min-head.result + 8 * ((a.width - c.min-head.result) / 8) in
    let v =
    bytes-all a.s.now a.at a.width _ c.requires.width_bound_2 c.min-head.ensures l.invariant l.auto.b-index-end
    c.loop-b-test.false in
    let e : i + (a.width - i) ≡ a.width = omega arith in
    rw (c.power.ensures, v, c.within-rest.ensures)
    (sym (number-split a.s.now a.at i (a.width - i) (omega arith)) ∙ ap (number a.s.now a.at) e)
