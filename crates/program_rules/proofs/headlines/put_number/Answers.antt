-- `headlines::put_number` meets its contract: the digits and the byte after them. Assumes nothing.
use Rattle.program_rules.proofs.headlines.LineLaws.{number-length}
use Rattle.program_rules.proofs.headlines.StepLaws.{step-of-tail, step-length}
use Rattle.program_rules.proofs.headlines.PutLaws.{number_step}
use Rattle.decimal.specs.Decimal.{digits}
use lib.ListN.{length, drop, length-take, length-drop}
use Prim.Native.Nat.{◌-◌}
use native.Mathlib.Omega.{arith}
use Rattle.program_rules.proofs.headlines.put_number.Goals as goal

pub put_digits-requires : goal.put_digits-requires
put_digits-requires c =
    omega (
      arith,
      c.requires,
      number-length c.args.x c.args.after,
      length-take (length c.args.out.now - c.args.p)
          (drop c.args.p c.args.out.now),
      length-drop
          c.args.p c.args.out.now,
    )

pub overflow_add-e : goal.overflow_add-e
overflow_add-e c =
    omega (
      arith,
      c.requires,
      number-length c.args.x
          c.args.after,
      c.put_digits.ensures.long,
    )

pub bounds-out-e : goal.bounds-out-e
bounds-out-e c =
    omega (
      arith,
      c.requires,
      number-length
          c.args.x c.args.after,
      c.put_digits.ensures.long,
      step-length
          c.args.out.now
          (digits c.args.x) _
          c.args.p _ (step-of-tail
          c.args.out.now
          (digits c.args.x) c.put_digits.new.out
          c.args.p c.put_digits.result
          (omega (arith, c.requires)) c.put_digits.ensures)
          (omega (
            arith,
            c.requires,
            number-length
                c.args.x
                c.args.after,
          )),
    )

pub overflow_add-result : goal.overflow_add-result
overflow_add-result c =
    omega (
      arith,
      c.requires,
      number-length c.args.x
          c.args.after,
      c.put_digits.ensures.long,
    )

pub returns : goal.returns
returns c =
    number_step c.args.out.now
    c.args.x c.args.after
    c.args.p c.put_digits.result
    c.put_digits.new.out c.requires
    c.put_digits.ensures
