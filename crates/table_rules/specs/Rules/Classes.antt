-- Classes and roots of a table. Assumes nothing: definitions.
use Rattle.std.specs.Prelude.{Bool, true, false, ◌&&◌, ℕ, ◌+◌, eqb, ltb, length, get_or, take}
use Rattle.choice_rules.specs.Rows.{Child, literal, class}
use Rattle.file_rules.specs.Table.{Sort, Table}
use Rattle.file_rules.specs.Sorts.{classes_of}

-- What stands past the last sort; nothing below asks for it.
abbrev pub no_sort : Sort
no_sort = record { kind = 0; classes = 0 }

abbrev pub sort_of : Table → ℕ → Sort
sort_of t s = get_or t.sorts s no_sort

-- All classes together.
abbrev pub class_count : Table → ℕ
class_count t = classes_of t.sorts

-- "Hash maps by sort name become flat class numbers": class v of sort s comes after the classes of the sorts before s.
unfoldable pub flat_class : Table → ℕ → ℕ → ℕ
flat_class t s v = classes_of (take s t.sorts) + v

-- A cell of sort s: "An eq cell is below its sort's class count, a base cell is a literal index".
unfoldable pub child_of : Table → ℕ → ℕ → Child
child_of t s v = elim (eqb (sort_of t s).kind 0) [ true ↦ literal v | false ↦ class (flat_class t s v) ]

-- How many values a sort has: a base sort the literals, an eq sort its classes.
unfoldable pub range_of : Table → ℕ → ℕ
range_of t s = elim (eqb (sort_of t s).kind 0) [ true ↦ length t.literals | false ↦ (sort_of t s).classes ]

-- "BadRoot: asked sort not below S, or value out of its range"
unfoldable pub is_root : Table → ℕ → ℕ → Bool
is_root t s v = ltb s (length t.sorts) && ltb v (range_of t s)
