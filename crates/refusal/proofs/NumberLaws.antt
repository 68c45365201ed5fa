-- A refusal's number tells it: different refusals have different numbers. Document 01, 'Refusal numbers'.
-- Assumes nothing.
use Prim.Native.Nat.{ℕ, ◌-◌}
use mathlib.Core.Path.{◌≡◌, refl, ap, sym, ◌∙◌}
use mathlib.Core.List.{List, [], ◌∷◌}
use lib.ListN.{get_or}
use Rattle.refusal.specs.declared.Refusal.{Refusal}
use Rattle.refusal.specs.declared.Refusal.TheVariants.{
  Short,
  BadVersion,
  BadSize,
  BadName,
  DupName,
  BadSort,
  BadFunction,
  BadValue,
  Trailing,
  BadRoot,
  NoTerm,
  TooDear,
  NoRoom,
  BadTerm,
  Absent,
  BadMode,
  BadStore,
}
use Rattle.refusal.specs.Numbers.{refusal_no}

-- the refusals by their numbers, from 1
table : List Refusal
table =
    Short
    ∷ BadVersion
    ∷ BadSize
    ∷ BadName
    ∷ DupName
    ∷ BadSort
    ∷ BadFunction
    ∷ BadValue
    ∷ Trailing
    ∷ BadRoot
    ∷ NoTerm
    ∷ TooDear
    ∷ NoRoom
    ∷ BadTerm
    ∷ Absent
    ∷ BadMode
    ∷ BadStore
    ∷ []

table-get : (r : Refusal) → get_or table (refusal_no r - 1) Short ≡ r
unfolding table
table-get Short = refl
table-get BadVersion = refl
table-get BadSize = refl
table-get BadName = refl
table-get DupName = refl
table-get BadSort = refl
table-get BadFunction = refl
table-get BadValue = refl
table-get Trailing = refl
table-get BadRoot = refl
table-get NoTerm = refl
table-get TooDear = refl
table-get NoRoom = refl
table-get BadTerm = refl
table-get Absent = refl
table-get BadMode = refl
table-get BadStore = refl

pub number-once : (r q : Refusal) → refusal_no r ≡ refusal_no q → r ≡ q
number-once r q e = sym (table-get r) ∙ ap (λ (n : ℕ). get_or table (n - 1) Short) e ∙ table-get q
