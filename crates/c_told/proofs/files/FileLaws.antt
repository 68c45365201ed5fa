-- What the reader of a table file answered, told in one struct. Assumes nothing.
use mathlib.Core.Path.{◌≡◌, refl, sym, ap, ◌∙◌}
use Prim.Native.Nat.{ℕ}
use lib.IntN.{ℤ}
use Rattle.refusal.specs.declared.Refusal.{Refusal}
use Rattle.bits.specs.Got.{Got, got, refused}
use Rattle.file_rules.specs.Table.{Table}
use Rattle.file_rules.specs.declared.Counts.{Counts}
use Rattle.std.specs.Prelude.{Result}
use Rattle.file_reader.specs.Outcome.{outcome_of, Answers}
use Rattle.c_told.specs.Below.{below_zero}
use Rattle.c_told.specs.Files.{shape_of, shape_told}
use Rattle.c_told.specs.declared.files.Shape.{Shape}

-- the reader's answer tells what the file holds
alike : (g : Got Table) → shape_told (outcome_of g) ≡ shape_of g
alike (got t k) = refl
alike (refused r) = refl

pub file-told :
    {P : Table → Type 0} {g : Got Table} {r : Result Counts Refusal} (z : Shape) → Answers g r P → z ≡ shape_told r → z ≡ shape_of g
file-told {g = g} z h t = t ∙ ap shape_told h.answer ∙ alike g
