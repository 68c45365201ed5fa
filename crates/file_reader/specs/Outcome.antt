-- What the reader of a table file answers. Assumes nothing: definitions.
use Rattle.std.specs.Prelude.{◌≡◌, length, Result, Ok, Err}
use Rattle.refusal.specs.declared.Refusal.{Refusal}
use Rattle.bits.specs.Got.{Got, got, refused}
use Rattle.file_rules.specs.declared.Counts.{Counts}
use Rattle.file_rules.specs.Table.{Table}
use Rattle.file_rules.specs.Reading.{OnGot}

-- The counts of a table that was read, or the first fault.
abbrev pub outcome_of : Got Table → Result Counts Refusal
outcome_of (got t k) =
    Ok
    (record {
      sorts = length t.sorts;
      literals = length t.literals;
      functions = length t.functions;
      rows = length t.rows;
    })
outcome_of (refused r) = Err r

-- The answer is the definition's, and P holds of the table where one was read.
pub record Answers (g : Got Table) (r : Result Counts Refusal) (P : Table → Type 0) : Type 0 where
  pub answer : r ≡ outcome_of g
  pub filled : OnGot g P
