-- Marks of rows: one for each row, and one for each block of 32 rows. Assumes nothing: definitions.
use Rattle.std.specs.Prelude.{◌≡◌, false, List, ◌⊎◌, ℕ, ◌/◌, ◌<◌, ◌≤◌, length, get_or}
use Rattle.choice_rules.specs.Rows.{Row, row_at}
use Rattle.choice_rules.specs.Run.{State, improves}

-- Row i is not marked: its mark or its block's is 0.
abbrev pub Off : List ℕ → List ℕ → ℕ → Type 0
Off marks blocks i = (get_or blocks (i / 32) 0 ≡ 0) ⊎ (get_or marks i 0 ≡ 0)

-- A row that is off improves nothing.
abbrev pub Covered : ℕ → List Row → State → (ℕ → Type 0) → Type 0
Covered M rows s off = (i : ℕ) → i < length rows → off i → improves M s (row_at rows i) ≡ false

-- There is a mark for each of 1,024 rows and for each of their 32 blocks.
pub record Room (marks blocks : List ℕ) : Type 0 where
  pub marks_room : length marks ≡ 1024
  pub blocks_room : length blocks ≡ 32

-- No row from `from` to r has a mark of its own.
pub record Scanned (marks : List ℕ) (from to r : ℕ) : Type 0 where
  pub forward : from ≤ r
  pub within : r ≤ to
  pub zero : (j : ℕ) → from ≤ j → j < r → get_or marks j 0 ≡ 0

-- No row from `from` to r is marked; marks of blocks may have been cleared.
pub record Next (marks blocks₀ blocks : List ℕ) (from r : ℕ) : Type 0 where
  pub forward : from ≤ r
  pub top : r ≤ 1024
  pub kept : (j : ℕ) → Off marks blocks j → Off marks blocks₀ j
  pub skipped : (j : ℕ) → from ≤ j → j < r → Off marks blocks j

-- The same up to the end of a block.
pub record InBlock (marks blocks₀ blocks : List ℕ) (from to r : ℕ) : Type 0 where
  pub next : Next marks blocks₀ blocks from r
  pub within : r ≤ to
  pub clears : (j : ℕ) → Off marks blocks₀ j → Off marks blocks j
