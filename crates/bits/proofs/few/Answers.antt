-- `bits::few` meets its contract: the two bytes that the bits lie in, shifted and cut. Assumes nothing.
use native.Mathlib.Omega.{arith}
use Rattle.bits.proofs.SplitLaws.{number-few}
use Rattle.bits.proofs.few.Goals as goal

pub returns : goal.returns
returns c =
    let a = c.args in
    rw (c.power.ensures, c.from.ensures, c.from-2.ensures)
    (number-few a.s.now a.at a.width (omega arith) (omega arith) (c.type_inv.s _).fits (c.type_inv.s _).fits)
