-- `function_fields::read_flags` meets its contract: each `return` is a law of `flags_at`. Assumes nothing.
use mathlib.Core.Path.{refl, sym}
use native.Mathlib.Omega.{arith}
use Rattle.bits.proofs.FieldLaws.{field-read}
use Rattle.file_rules.proofs.ReadingLaws.{reads-got, reads-exit}
use Rattle.file_fields.proofs.function_fields.StepLaws.{flags-refused, flags-cut, flags-both}
use Rattle.file_fields.proofs.function_fields.read_flags.Goals as goal

pub returns-in_err-u : goal.returns-in_err-u
returns-in_err-u c = reads-exit _ c.from_residual.ensures.1 (flags-refused _ _ (sym c.in_err-u.ensures))

pub read-requires-2-clause-width_bound : goal.read-requires-2-clause-width_bound
read-requires-2-clause-width_bound c =
    let k = field-read _ _ 1 (sym c.in_ok-u.ensures) in
    omega (arith, k.end, c.requires.at_bound)

pub returns-in_err-h : goal.returns-in_err-h
returns-in_err-h c =
    reads-exit _ c.from_residual-in_err-h.ensures.1 (flags-cut _ _ (sym c.in_ok-u.ensures) (sym c.in_err-h.ensures))

pub returns : goal.returns
returns c =
    reads-got (flags-both _ _ (sym c.in_ok-u.ensures) (sym c.in_ok-h.ensures))
    (record { unextractable_put = refl; hidden_put = refl })
