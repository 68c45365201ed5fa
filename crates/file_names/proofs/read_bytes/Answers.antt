-- `file_names::read_bytes` meets its contract: the front of the buffer is the bytes read so far. Assumes nothing.
use Prim.Native.Nat.{◌≤◌, ◌<◌, ◌+◌, ◌*◌}
use mathlib.Core.Path.{refl}
use native.Mathlib.Omega.{arith}
use lib.ListN.{length, length-set}
use Rattle.bits.proofs.BitsLaws.{number_lt}
use Rattle.file_rules.specs.Functions.{bytes_at}
use Rattle.file_names.proofs.TextLaws.{bytes-more}
use Rattle.file_names.proofs.read_bytes.Goals as goal

pub loop-j-init : goal.loop-j-init
unfolding bytes_at
loop-j-init c = (omega arith, (refl, refl))

pub overflow_cast-buffer : goal.overflow_cast-buffer
overflow_cast-buffer c =
    let a = c.args in
    let l = c.loop-j in
    let h : a.at + 8 * l.j + 8 ≤ 8 * length a.s.now = omega arith in
    record { fits = rw c.gather.ensures (number_lt _ _ 8 h) }

pub loop-j-preserved : goal.loop-j-preserved
loop-j-preserved c =
    let l = c.loop-j in
    let h : l.j < length l.buffer = omega arith in
    (omega arith, (simp length-set l.invariant.1.0, bytes-more _ _ _ _ h l.invariant.1.1 c.gather.ensures))
