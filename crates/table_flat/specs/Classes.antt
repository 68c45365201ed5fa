-- Flat class numbers: document 01, 'Forms that must change'. Assumes nothing: these are definitions.
use Rattle.std.specs.Prelude.{ℕ, ◌+◌, ◌<◌, ◌≡◌, List, [], ◌∷◌, get_or, take}

-- The sum of a list.
unfoldable pub total : List ℕ → ℕ
total [] = 0
total (x ∷ xs) = x + total xs

-- "Hash maps by sort name become flat class numbers": a sort's first number comes after the classes of those before it.
abbrev pub first_class : List ℕ → ℕ → ℕ
first_class classes s = total (take s classes)

-- The bases are the first numbers of the first n sorts.
abbrev pub Bases : ℕ → List ℕ → List ℕ → Type 0
Bases n classes bases = (s : ℕ) → s < n → get_or bases s 0 ≡ first_class classes s
