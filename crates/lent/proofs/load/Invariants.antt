-- `lent::load`: the first i records are copied. Assumes nothing.
use Rattle.std.proofs.Common.{◌≡◌, length}
use Rattle.term_rules.specs.Lent.{records_length}
use Rattle.lent.proofs.CopyLaws.{Copied}
use Rattle.lent.proofs.load.Given as goal

abbrev pub invariant-loop-i : goal.invariant-loop-i
invariant-loop-i l =
    record {
      room : l.flat.room ≡ l.room;
      long : length l.flat.records ≡ records_length 1024;
      wide : length l.flat.literals ≡ 1024;
      copied : Copied l.ts l.i l.flat.records l.flat.literals;
    }
