-- `decimal::put_digits` meets its contract, by the recursion of the digits. Assumes nothing.
use Prim.Native.Nat.{◌+◌, ◌/◌, ◌%◌, ◌<◌}
use lib.ListN.{length}
use Rattle.decimal.specs.Decimal.{digits}
use Rattle.decimal.proofs.DigitLaws.{digits-one, digits_more, digits-length-one, digits-length-more}
use Rattle.decimal.proofs.WrittenLaws.{stands-of-wrote, wrote-of-stands, stands-byte, stands-first}
use native.Mathlib.Omega.{arith}
use Rattle.decimal.proofs.+put_digits.Goals as goal

pub bounds-out-0 : goal.bounds-out-0
bounds-out-0 t c = omega (arith, digits-length-one c.args.x c.if-x-lt10.true, c.requires)

pub put_digits-n-requires : goal.put_digits-n-requires
put_digits-n-requires t c =
    (omega arith, omega (arith, c.requires, digits-length-more c.args.x c.if-x-lt10.false))

pub bounds-out-n : goal.bounds-out-n
bounds-out-n t c =
    omega (
      arith,
      c.requires,
      digits-length-more c.args.x c.if-x-lt10.false,
      c.put_digits-n.auto.out,
      c.put_digits-n.ensures.long,
    )

pub returns-then-x-lt10 : goal.returns-then-x-lt10
returns-then-x-lt10 t c =
    let a = c.args in
    let one = digits-length-one a.x c.if-x-lt10.true in
    rw (digits-one a.x c.if-x-lt10.true)
    (wrote-of-stands a.out.now _ _ _ (stands-first a.out.now (a.x + 48) (omega (arith, one, c.requires))))

pub returns-else-x-lt10 : goal.returns-else-x-lt10
returns-else-x-lt10 t c =
    let a = c.args in
    let ten = c.if-x-lt10.false in
    let room : length (digits (a.x / 10)) < length a.out.now =
    omega (arith, c.requires, digits-length-more a.x ten) in
    rw (digits_more a.x ten)
    (wrote-of-stands a.out.now _ _ _
    (stands-byte a.out.now (digits (a.x / 10)) _ _
    (stands-of-wrote a.out.now (digits (a.x / 10)) _ _ c.put_digits-n.ensures)
    (a.x % 10 + 48) room))
