-- A table as far as the scan order goes by it. Assumes nothing: these are definitions.
use Rattle.std.specs.Prelude.{ℕ, Bool, ◌&&◌, List, eqb}

-- How many sorts, functions and rows there are; of each function number whether it is usable, its output sort and its
-- argument sorts; of each row number its function and whether it is unsubsumed.
pub record ScanView : Type 0 where
  pub sorts : ℕ
  pub functions : ℕ
  pub rows : ℕ
  pub usable : ℕ → Bool
  pub output : ℕ → ℕ
  pub arguments : ℕ → List ℕ
  pub function : ℕ → ℕ
  pub unsubsumed : ℕ → Bool

-- "Usable functions are neither unextractable nor hidden", by the two flags.
abbrev pub is_usable : ℕ → ℕ → Bool
is_usable unextractable hidden = eqb unextractable 0 && eqb hidden 0

-- A row is unsubsumed where its flag is 0.
abbrev pub is_unsubsumed : ℕ → Bool
is_unsubsumed subsumed = eqb subsumed 0
