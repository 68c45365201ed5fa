-- `text_pieces::put_bytes` meets its contract: the bytes passed stand at the start. Assumes nothing.
use mathlib.Core.Path.{◌≡◌, subst}
use Prim.Native.Nat.{ℕ}
use lib.ListN.{length}
use Rattle.decimal.specs.Written.{Wrote}
use Rattle.text_pieces.proofs.PieceLaws.{copying-none, copying-length, copying-again, copying-end}
use native.Mathlib.Omega.{arith}
use Rattle.text_pieces.proofs.put_bytes.Goals as goal

pub loop-j-init : goal.loop-j-init
loop-j-init c = copying-none c.args.out.now c.args.s.now c.requires

pub bounds-out-j : goal.bounds-out-j
bounds-out-j c =
    let l = c.loop-j in
    omega (arith, copying-length c.args.out.now c.args.s.now c.requires l.out l.j l.invariant, c.requires)

pub loop-j-preserved : goal.loop-j-preserved
loop-j-preserved c =
    let l = c.loop-j in
    copying-again c.args.out.now c.args.s.now c.requires l.out l.j l.invariant (omega arith)

pub returns : goal.returns
returns c =
    let l = c.loop-j in
    let e : l.j ≡ length c.args.s.now = omega (arith, l.invariant.at) in
    subst (λ (j : ℕ). Wrote c.args.s.now j c.args.out.now l.out) e
    (copying-end c.args.out.now c.args.s.now c.requires l.out l.j l.invariant (omega arith))
