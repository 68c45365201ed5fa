-- `bits::by_bytes` meets its contract: what is gathered is the number of the bits so far, and while bits are left the
-- next one begins a byte. Assumes nothing.
use Prim.Native.Nat.{◌+◌, ◌*◌}
use mathlib.Core.Path.{◌≡◌}
use Rattle.bits.specs.Bits.{number}
use Rattle.bits.proofs.by_bytes.Given as goal

abbrev pub invariant-loop-b : goal.invariant-loop-b
invariant-loop-b l = l.v ≡ number l.s l.at (l.head + 8 * l.b-index)
