-- `bits::within` meets its contract: no bits, or some of one byte. Assumes nothing.
use mathlib.Core.Path.{◌≡◌, sym, ◌∙◌}
use native.Mathlib.Omega.{arith}
use Rattle.bits.proofs.BitsLaws.{number-zero, number-within}
use Rattle.bits.proofs.within.Goals as goal

pub returns-then-n-eq0 : goal.returns-then-n-eq0
returns-then-n-eq0 c =
    let a = c.args in
    let e : a.n ≡ 0 = omega arith in
    rw e (sym (number-zero a.s.now a.at))

pub returns : goal.returns
returns c =
    let a = c.args in
    c.part.ensures ∙ sym (number-within a.s.now a.at a.n (omega arith) (omega arith))
