-- `function_fields::read_cost` meets its contract: each `return` is a law of `cost_at`. Assumes nothing.
use mathlib.Core.Path.{sym, refl}
use native.Mathlib.Omega.{arith}
use Rattle.bits.proofs.FieldLaws.{field-read}
use Rattle.file_rules.proofs.ReadingLaws.{reads-got, reads-exit}
use Rattle.file_fields.proofs.function_fields.StepLaws.{cost-refused, cost-none, cost-cut, cost-some}
use Rattle.file_fields.proofs.function_fields.read_cost.Goals as goal

pub returns-in_err-has : goal.returns-in_err-has
returns-in_err-has c = reads-exit _ c.from_residual.ensures.1 (cost-refused _ _ (sym c.in_err-has.ensures))

pub returns-then-has-eq0 : goal.returns-then-has-eq0
returns-then-has-eq0 c =
    reads-got (cost-none _ _ (sym c.in_ok-has.ensures) c.if-has-eq0.true)
    (record { declared_put = refl; costs_put = refl })

pub read-requires-2-clause-width_bound : goal.read-requires-2-clause-width_bound
read-requires-2-clause-width_bound c =
    let k = field-read _ _ 1 (sym c.in_ok-has.ensures) in
    omega (arith, k.end, c.requires.at_bound)

pub returns-in_err-cost : goal.returns-in_err-cost
returns-in_err-cost c =
    reads-exit _ c.from_residual-in_err-cost.ensures.1 (cost-cut _ _ (sym c.in_ok-has.ensures)
    c.if-has-eq0.false
    (sym c.in_err-cost.ensures))

pub returns : goal.returns
returns c =
    reads-got (cost-some _ _ (sym c.in_ok-has.ensures)
    c.if-has-eq0.false
    (sym c.in_ok-cost.ensures))
    (record { declared_put = refl; costs_put = refl })
