-- The rows and the end of the file as read against the arrays, and the promise that says nothing of what was read: for
-- the reader's own functions. Assumes nothing: definitions.
use Prim.{Unit}
use Rattle.std.specs.Prelude.{ℕ, List, leb}
use Rattle.refusal.specs.declared.Refusal.TheVariants.{BadSize}
use Rattle.bits.specs.Got.{Got, got, then, must}
use Rattle.bits.specs.Field.{field}
use Rattle.file_rules.specs.Table.{Row}
use Rattle.file_rules.specs.File.{end_at}
use Rattle.file_rows.specs.In.{rows_in}

-- Where only the answer counts.
abbrev pub Any : ℕ → Type 0
Any v = Unit {0}

unfoldable pub rows_part_in : List ℕ → List ℕ → List ℕ → ℕ → ℕ → List ℕ → List ℕ → List ℕ → ℕ → Got (List Row)
rows_part_in s kinds classes l count outputs arities arguments at =
    then (field s at 11)
    (λ n p. must (leb n 1024) BadSize (rows_in s kinds classes l count outputs arities arguments n p))

-- The rows, read against the arrays, and then the end of the file.
unfoldable pub tail_in : List ℕ → List ℕ → List ℕ → ℕ → ℕ → List ℕ → List ℕ → List ℕ → ℕ → Got (List Row)
tail_in s kinds classes l count outputs arities arguments at =
    then (rows_part_in s kinds classes l count outputs arities arguments at)
    (λ rows p. then (end_at s p) (λ end q. got rows q))
