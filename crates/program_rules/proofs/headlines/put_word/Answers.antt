-- `headlines::put_word` meets its contract: the bytes of the word in the tail. Assumes nothing.
use Rattle.program_rules.proofs.headlines.StepLaws.{step-of-tail}
use native.Mathlib.Omega.{arith}
use Rattle.program_rules.proofs.headlines.put_word.Goals as goal

pub returns : goal.returns
returns c =
    step-of-tail c.args.out.now
    c.args.word.now c.put_bytes.new.out
    c.args.p c.put_bytes.result
    (omega (arith, c.requires)) c.put_bytes.ensures
