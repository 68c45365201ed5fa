-- The rows of a table file: document 01, 'The table file', its fifth line. Assumes nothing: definitions.
use Rattle.std.specs.Prelude.{ℕ, List, [], ◌∷◌, ◌++◌, ltb, eqb, length, get_or}
use Rattle.refusal.specs.declared.Refusal.TheVariants.{BadFunction, BadValue}
use Rattle.bits.specs.Got.{Got, got, then, must, pick, many}
use Rattle.bits.specs.Field.{field}
use Rattle.file_rules.specs.Table.{Sort, Function, Row}

-- The sort of a number.
abbrev pub sort_no : List Sort → ℕ → Sort
sort_no sorts k = get_or sorts k (record { kind = 0; classes = 0 })

-- The function of a number.
abbrev pub function_no : List Function → ℕ → Function
function_no functions k =
    get_or functions k
    (record {
      name = [];
      has_cost = 0;
      cost = 0;
      unextractable = 0;
      hidden = 0;
      output = 0;
      arguments = [];
    })

-- The sorts of a row's cells: "one 9-bit cell per argument; one for the output".
abbrev pub columns : Function → List ℕ
columns f = f.arguments ++ (f.output ∷ [])

-- "An eq cell is below its sort's class count, a base cell is a literal index below L": the bound of a cell of the
-- sort k.
unfoldable pub range : List Sort → ℕ → ℕ → ℕ
range sorts l k = pick (eqb (sort_no sorts k).kind 1) (sort_no sorts k).classes l

-- A cell below a bound.
unfoldable pub cell_at : List ℕ → ℕ → ℕ → Got ℕ
cell_at s bound at = then (field s at 9) (λ v p. must (ltb v bound) BadValue (got v p))

-- The cells of a row whose columns have the sorts ks: each in the range of its own sort.
unfoldable pub cells_at : List ℕ → List Sort → ℕ → List ℕ → ℕ → Got (List ℕ)
cells_at s sorts l [] at = got [] at
cells_at s sorts l (k ∷ ks) at =
    then (cell_at s (range sorts l k) at) (λ x p.
    then (cells_at s sorts l ks p) (λ xs q.
    got (x ∷ xs) q))

-- "Each: function 7 bits; subsumed 1; one 9-bit cell per argument; one for the output."
unfoldable pub row_at : List ℕ → List Sort → ℕ → List Function → ℕ → Got Row
row_at s sorts l functions at =
    then (field s at 7) (λ f p.
    must (ltb f (length functions)) BadFunction
    (then (field s p 1) (λ subsumed q.
    then (cells_at s sorts l (columns (function_no functions f)) q) (λ cells t.
    got (record { function = f; subsumed = subsumed; cells = cells }) t))))

-- n rows.
unfoldable pub rows_at : List ℕ → List Sort → ℕ → List Function → ℕ → ℕ → Got (List Row)
rows_at s sorts l functions n at = many (λ rows p. row_at s sorts l functions p) n at []
