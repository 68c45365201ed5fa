-- The number of each refusal: document 01, 'Refusal numbers'. Assumes nothing: a definition.
use Rattle.std.specs.Prelude.{ℕ}
use Rattle.refusal.specs.declared.Refusal.{Refusal}
use Rattle.refusal.specs.declared.Refusal.TheVariants.{
  Short,
  BadVersion,
  BadSize,
  BadName,
  DupName,
  BadSort,
  BadFunction,
  BadValue,
  Trailing,
  BadRoot,
  NoTerm,
  TooDear,
  NoRoom,
  BadTerm,
  Absent,
  BadMode,
  BadStore,
}

abbrev pub refusal_no : Refusal → ℕ
refusal_no Short = 1
refusal_no BadVersion = 2
refusal_no BadSize = 3
refusal_no BadName = 4
refusal_no DupName = 5
refusal_no BadSort = 6
refusal_no BadFunction = 7
refusal_no BadValue = 8
refusal_no Trailing = 9
refusal_no BadRoot = 10
refusal_no NoTerm = 11
refusal_no TooDear = 12
refusal_no NoRoom = 13
refusal_no BadTerm = 14
refusal_no Absent = 15
refusal_no BadMode = 16
refusal_no BadStore = 17
