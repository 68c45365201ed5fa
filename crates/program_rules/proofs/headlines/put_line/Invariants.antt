-- `headlines::put_line`: the word and the numbers passed stand. Assumes nothing.
use Rattle.std.proofs.Common.{◌++◌, take}
use Rattle.program_rules.specs.Lines.{spaced}
use Rattle.program_rules.specs.Step.{Step}
use Rattle.program_rules.proofs.headlines.put_line.Given as goal

abbrev pub invariant-loop-x : goal.invariant-loop-x
invariant-loop-x l = Step (l.word ++ spaced (take l.x-index l.numbers)) l.p l.e l.fn.out l.out
