-- `decimal::put_literal` meets its contract: a minus and the magnitude, or the digits. Assumes nothing.
use native.Mathlib.Nat.{add_comm}
use Prim.Native.Nat.{◌≤◌}
use mathlib.Core.Path.{ap}
use mathlib.Core.List.{[], ◌∷◌}
use lib.ListN.{length, set, length-set}
use Rattle.decimal.specs.Decimal.{digits}
use Rattle.decimal.proofs.SignLaws.{told-negative, told-nonneg}
use Rattle.decimal.proofs.WrittenLaws.{stands-first, stands-fits, stands-then, wrote-of-stands}
use native.Mathlib.Omega.{arith}
use Rattle.decimal.proofs.put_literal.Goals as goal

pub bounds-out-0 : goal.bounds-out-0
bounds-out-0 c =
    let e = told-negative c.args.z _ c.ranges.z c.unsigned_abs-magnitude.ensures.value c.if-z-lt0.true in
    omega (arith, ap length e)

pub slice_bounds-put_digits-count : goal.slice_bounds-put_digits-count
slice_bounds-put_digits-count c =
    let e = told-negative c.args.z _ c.ranges.z c.unsigned_abs-magnitude.ensures.value c.if-z-lt0.true in
    simp length-set (omega (arith, ap length e))

pub slice_bounds-put_digits-start : goal.slice_bounds-put_digits-start
slice_bounds-put_digits-start c =
    let e = told-negative c.args.z _ c.ranges.z c.unsigned_abs-magnitude.ensures.value c.if-z-lt0.true in
    let h : 1 ≤ length (set c.args.out.now 0 45) = simp length-set (omega (arith, ap length e)) in
    h

pub put_digits-requires : goal.put_digits-requires
put_digits-requires c =
    let o = c.args.out.now in
    let e = told-negative c.args.z _ c.ranges.z c.unsigned_abs-magnitude.ensures.value c.if-z-lt0.true in
    stands-fits o (45 ∷ []) _ 1 (stands-first o 45 (omega (arith, ap length e)))
    (digits c.unsigned_abs-magnitude.result) (omega (arith, ap length e))

pub put_digits-requires-else-z-lt0 : goal.put_digits-requires-else-z-lt0
put_digits-requires-else-z-lt0 c =
    rw (told-nonneg c.args.z _ c.ranges.z c.unsigned_abs-magnitude.ensures.value c.if-z-lt0.false)
    at c.requires

pub returns-then-z-lt0 : goal.returns-then-z-lt0
returns-then-z-lt0 c =
    let o = c.args.out.now in
    let m = c.unsigned_abs-magnitude.result in
    let e = told-negative c.args.z _ c.ranges.z c.unsigned_abs-magnitude.ensures.value c.if-z-lt0.true in
    let t = stands-then o (45 ∷ []) _ 1 (stands-first o 45 (omega (arith, ap length e))) (digits m) c.put_digits.new.out
    c.put_digits.result c.put_digits.ensures in
    rw (e, add_comm c.put_digits.result 1) (wrote-of-stands o (45 ∷ digits m) _ _ t)

pub returns-else-z-lt0 : goal.returns-else-z-lt0
returns-else-z-lt0 c =
    rw (told-nonneg c.args.z _ c.ranges.z c.unsigned_abs-magnitude.ensures.value c.if-z-lt0.false)
    c.put_digits-else-z-lt0.ensures
