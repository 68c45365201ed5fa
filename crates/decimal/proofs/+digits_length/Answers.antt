-- `decimal::digits_length` meets its contract, by the recursion of the digits. Assumes nothing.
use Prim.Native.Nat.{◌/◌}
use mathlib.Core.Path.{sym}
use Rattle.decimal.proofs.DigitLaws.{digits-length-one, digits-length-more, digits-length-low}
use native.Mathlib.Omega.{arith}
use Rattle.decimal.proofs.+digits_length.Goals as goal

pub overflow_add-result : goal.overflow_add-result
overflow_add-result t c = omega (arith, c.digits_length.ensures, digits-length-low (c.args.x / 10))

pub returns-then-x-lt10 : goal.returns-then-x-lt10
returns-then-x-lt10 t c = sym (digits-length-one c.args.x c.if-x-lt10.true)

pub returns-else-x-lt10 : goal.returns-else-x-lt10
returns-else-x-lt10 t c = omega (arith, c.digits_length.ensures, digits-length-more c.args.x c.if-x-lt10.false)
