-- `function_fields::read_output` meets its contract: each `return` is a law of `output_at`. Assumes nothing.
use Prim.Native.Nat.{◌≤◌}
use mathlib.Core.Path.{sym, refl}
use native.Mathlib.Omega.{arith}
use lib.ListN.{length}
use Rattle.file_rules.proofs.ReadingLaws.{reads-got, reads-refused, reads-exit}
use Rattle.file_fields.proofs.function_fields.StepLaws.{output-refused, output-over, output-base, output_eq}
use Rattle.file_fields.proofs.function_fields.read_output.Goals as goal

pub returns-in_err-v : goal.returns-in_err-v
returns-in_err-v c =
    reads-exit _ c.from_residual.ensures.1 (output-refused _ _ _ (sym c.in_err-v.ensures))

pub returns-then-n-k : goal.returns-then-n-k
returns-then-n-k c =
    let b : c.args.n ≤ length c.args.sorts.now.kinds =
    omega (arith, c.requires.n_bound) in
    reads-refused (output-over _ _ _ _ b
    (sym c.in_ok-v.ensures) c.if-n-k.true)

pub returns-then-sorts-k-ne1 : goal.returns-then-sorts-k-ne1
returns-then-sorts-k-ne1 c =
    let b : c.args.n ≤ length c.args.sorts.now.kinds =
    omega (arith, c.requires.n_bound) in
    reads-refused (output-base _ _ _ _ b (sym c.in_ok-v.ensures)
    c.if-n-k.false c.if-sorts-k-ne1.true)

pub returns : goal.returns
returns c =
    let b : c.args.n ≤ length c.args.sorts.now.kinds =
    omega (arith, c.requires.n_bound) in
    reads-got (output_eq _ _ _ _ b (sym c.in_ok-v.ensures)
    c.if-n-k.false (omega arith))
    (record { put = refl })
