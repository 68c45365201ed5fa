-- `headlines::line_length`: the numbers passed are measured. Assumes nothing.
use Rattle.std.proofs.Common.{◌≡◌, ◌+◌, ◌*◌, ◌≤◌, length, take}
use Rattle.program_rules.specs.Lines.{spaced}
use Rattle.program_rules.proofs.headlines.line_length.Given as goal

abbrev pub invariant-loop-x : goal.invariant-loop-x
invariant-loop-x l =
    record {
      measured : l.n ≡ length l.word + length (spaced (take l.x-index l.numbers));
      small : l.n ≤ 9 + 21 * l.x-index;
    }
