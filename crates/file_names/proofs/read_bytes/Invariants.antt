-- `file_names::read_bytes` meets its contract: the front of the buffer is the bytes read so far. Assumes nothing.
use Prim.Native.Nat.{◌≤◌}
use mathlib.Core.Path.{◌≡◌}
use lib.ListN.{length, take}
use Rattle.file_rules.specs.Functions.{bytes_at}
use Rattle.file_names.proofs.read_bytes.Given as goal

abbrev pub invariant-loop-j : goal.invariant-loop-j
invariant-loop-j l = (l.j ≤ l.n) × ((length l.buffer ≡ length l.initial.buffer) × (take l.j l.buffer ≡ bytes_at l.s l.at l.j))
