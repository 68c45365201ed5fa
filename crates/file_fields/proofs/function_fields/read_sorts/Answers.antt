-- `function_fields::read_sorts` meets its contract: the argument sorts read so far stand in their places, and the rest
-- of the reading is that of the whole. Assumes nothing.
use mathlib.Core.Path.{sym}
use Rattle.file_rules.proofs.ReadingLaws.{reads-got, reads-refused, reads-exit}
use Rattle.file_fields.proofs.function_fields.StepLaws.{argument-refused, argument-over}
use Rattle.file_fields.proofs.function_fields.ArgumentLaws.{arguments-start, arguments-more, arguments-refuse, arguments-end}
use Rattle.file_fields.proofs.function_fields.read_sorts.Goals as goal

pub loop-j-init : goal.loop-j-init
loop-j-init c = arguments-start

pub returns-in_err-v : goal.returns-in_err-v
returns-in_err-v c =
    reads-exit _ c.from_residual.ensures.1 (arguments-refuse c.loop-j.invariant c.loop-j-test.true
    (argument-refused _ _ _ (sym c.in_err-v.ensures)))

pub returns-then-n-v : goal.returns-then-n-v
returns-then-n-v c =
    reads-refused (arguments-refuse c.loop-j.invariant c.loop-j-test.true
    (argument-over _ _ _ (sym c.in_ok-v.ensures) c.if-n-v.true))

pub loop-j-preserved : goal.loop-j-preserved
loop-j-preserved c =
    arguments-more c.loop-j.invariant c.loop-j-test.true
    (sym c.in_ok-v.ensures) c.if-n-v.false

pub returns : goal.returns
returns c =
    let l = c.loop-j.invariant in
    reads-got (arguments-end l c.loop-j-test.false) l.held
