-- `decimal::literal_length` meets its contract. Assumes nothing.
use mathlib.Core.Path.{ap}
use lib.ListN.{length}
use Rattle.decimal.proofs.DigitLaws.{digits-length-low}
use Rattle.decimal.proofs.SignLaws.{told-negative, told-nonneg}
use native.Mathlib.Omega.{arith}
use Rattle.decimal.proofs.literal_length.Goals as goal

pub overflow_add-result : goal.overflow_add-result
overflow_add-result c =
    omega (arith, c.digits_length-n.ensures, digits-length-low c.unsigned_abs.result, c.unsigned_abs.ensures.bound)

pub returns-then-z-lt0 : goal.returns-then-z-lt0
returns-then-z-lt0 c =
    omega (
      arith,
      c.digits_length-n.ensures,
      ap length (told-negative c.args.z _ c.ranges.z c.unsigned_abs.ensures.value c.if-z-lt0.true),
    )

pub returns-else-z-lt0 : goal.returns-else-z-lt0
returns-else-z-lt0 c =
    rw (told-nonneg c.args.z _ c.ranges.z c.unsigned_abs.ensures.value c.if-z-lt0.false)
    c.digits_length-n.ensures
