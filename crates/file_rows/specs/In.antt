-- The rows of a table file as read against the arrays of sorts and functions. That this is the definition of
-- `file_rules`, where the arrays hold the sorts and the functions, is a law. Assumes nothing: definitions.
use Rattle.std.specs.Prelude.{ℕ, ◌+◌, ◌*◌, ◌<◌, ◌≡◌, List, [], ltb, eqb, length, get_or, set, replicate}
use Rattle.std.proofs.lemmas.List.Edits.{sets}
use Rattle.refusal.specs.declared.Refusal.TheVariants.{BadFunction}
use Rattle.bits.specs.Got.{Got, got, then, must, pick, many}
use Rattle.bits.specs.Field.{field}
use Rattle.file_rules.specs.Table.{Row}
use Rattle.file_rules.specs.Rows.{cell_at}

-- The bound of a cell of the sort k.
unfoldable pub range_in : List ℕ → List ℕ → ℕ → ℕ → ℕ
range_in kinds classes l k = pick (eqb (get_or kinds k 0) 1) (get_or classes k 0) l

-- The sort of column j of the function f.
unfoldable pub column_in : List ℕ → List ℕ → List ℕ → ℕ → ℕ → ℕ
column_in outputs arities arguments f j =
    pick (ltb j (get_or arities f 0)) (get_or arguments (f * 8 + j) 0) (get_or outputs f 0)

-- How a cell of the function f is read, after those of xs.
abbrev pub cell_in : List ℕ → List ℕ → List ℕ → ℕ → List ℕ → List ℕ → List ℕ → ℕ → List ℕ → ℕ → Got ℕ
cell_in s kinds classes l outputs arities arguments f xs p =
    cell_at s (range_in kinds classes l (column_in outputs arities arguments f (length xs))) p

-- The cells of a row of the function f.
unfoldable pub cells_in : List ℕ → List ℕ → List ℕ → ℕ → List ℕ → List ℕ → List ℕ → ℕ → ℕ → Got (List ℕ)
cells_in s kinds classes l outputs arities arguments f at =
    many (cell_in s kinds classes l outputs arities arguments f) (get_or arities f 0 + 1) at []

-- A row of one of `count` functions.
unfoldable pub row_in : List ℕ → List ℕ → List ℕ → ℕ → ℕ → List ℕ → List ℕ → List ℕ → ℕ → Got Row
row_in s kinds classes l count outputs arities arguments at =
    then (field s at 7) (λ f p.
    must (ltb f count) BadFunction
    (then (field s p 1) (λ subsumed q.
    then (cells_in s kinds classes l outputs arities arguments f q) (λ cells t.
    got (record { function = f; subsumed = subsumed; cells = cells }) t))))

-- n rows.
unfoldable pub rows_in : List ℕ → List ℕ → List ℕ → ℕ → ℕ → List ℕ → List ℕ → List ℕ → ℕ → ℕ → Got (List Row)
rows_in s kinds classes l count outputs arities arguments n at =
    many (λ rows p. row_in s kinds classes l count outputs arities arguments p) n at []

-- Every number of an array is below n.
pub record Below (n : ℕ) (array : List ℕ) : Type 0 where
  pub below : (k : ℕ) → get_or array k 0 < n

-- What the arrays of functions must be for the reading of rows: their numbers are in range.
pub record Sound (outputs arities arguments : List ℕ) : Type 0 where
  pub outputs_small : Below 32 outputs
  pub arities_small : Below 9 arities
  pub arguments_small : Below 32 arguments

-- Each of the list at the next place from `from`.
pub record PutCells (from : ℕ) (array₀ array : List ℕ) (xs : List ℕ) : Type 0 where
  pub put : array ≡ sets array₀ from xs

pub record PutRow (i : ℕ) (functions₀ subsumed₀ cells₀ functions subsumed cells : List ℕ) (r : Row) : Type 0 where
  pub functions_put : functions ≡ set functions₀ i r.function
  pub subsumed_put : subsumed ≡ set subsumed₀ i r.subsumed
  pub cells_put : cells ≡ sets cells₀ (i * 9) r.cells

-- The arrays of rows before the first is read.
pub record Zeros (functions subsumed cells : List ℕ) : Type 0 where
  pub functions_zero : functions ≡ replicate 1024 0
  pub subsumed_zero : subsumed ≡ replicate 1024 0
  pub cells_zero : cells ≡ replicate 9216 0
