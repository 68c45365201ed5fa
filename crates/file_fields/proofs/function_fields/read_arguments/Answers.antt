-- `function_fields::read_arguments` meets its contract: the arity, then the loop over the argument sorts. Assumes
-- nothing.
use mathlib.Core.Path.{sym}
use native.Mathlib.Omega.{arith}
use Rattle.bits.proofs.FieldLaws.{field-read}
use Rattle.bits.proofs.GotLaws.{many-length}
use Rattle.file_rules.proofs.ReadingLaws.{reads-refused, reads-weaken, reads-exit}
use Rattle.file_fields.proofs.function_fields.StepLaws.{arguments-refused, arguments-over, arguments-from}
use Rattle.file_fields.proofs.function_fields.read_arguments.Goals as goal

pub returns-in_err-m : goal.returns-in_err-m
returns-in_err-m c =
    reads-exit _ c.from_residual.ensures.1 (arguments-refused _ _ _ (sym c.in_err-m.ensures))

pub returns-then-m-gt8 : goal.returns-then-m-gt8
returns-then-m-gt8 c =
    reads-refused (arguments-over _ _ _
    (sym c.in_ok-m.ensures) c.if-m-gt8.true)

pub read_sorts-requires : goal.read_sorts-requires
read_sorts-requires c =
    let k = field-read _ _ 4 (sym c.in_ok-m.ensures) in
    record {
      at_bound = omega (arith, k.end, c.requires.at_bound);
      m_bound = (omega arith, omega arith);
    }

pub returns : goal.returns
returns c =
    reads-weaken (sym (arguments-from _ _ _ (sym c.in_ok-m.ensures)
    c.if-m-gt8.false))
    c.read_sorts.ensures
    (λ xs k e h. record { arities_put = rw (many-length _ _ _ e); arguments_put = h.put })
