-- The flat numbers of a row, out of a table's arrays: eight places for a function's argument sorts, nine for a row's
-- cells. Assumes nothing: these are definitions.
use Rattle.std.specs.Prelude.{ℕ, ◌+◌, ◌*◌, cond, List, [], ◌∷◌, get_or, take, drop, eqb}
use Rattle.choice_rules.specs.Rows.{Row}
use Rattle.price_passes.specs.Flat.{row_of}
use Rattle.table_rules.specs.Arrays.{arguments_in}

-- The flat class of the output cell of row r, whose function is f: the first number of the output sort, plus the cell.
unfoldable pub output_number : List ℕ → List ℕ → List ℕ → List ℕ → ℕ → ℕ → ℕ
output_number bases arities outputs cells f r =
    get_or bases (get_or outputs f 0) 0 + get_or cells (r * 9 + get_or arities f 0) 0

-- "head cost (none declared: 1)"
unfoldable pub head_cost : ℕ → ℕ → ℕ
head_cost declared cost = cond (eqb declared 0) 1 cost

-- A cell of sort s as a child number: a class below 512, or 512 and the literal's index.
unfoldable pub child_number : List ℕ → List ℕ → ℕ → ℕ → ℕ
child_number kinds bases s v = cond (eqb (get_or kinds s 0) 1) (get_or bases s 0 + v) (512 + v)

-- The child numbers of cells, each by its own sort.
unfoldable pub child_numbers : List ℕ → List ℕ → List ℕ → List ℕ → List ℕ
child_numbers kinds bases [] vs = []
child_numbers kinds bases (s ∷ ss) [] = []
child_numbers kinds bases (s ∷ ss) (v ∷ vs) = child_number kinds bases s v ∷ child_numbers kinds bases ss vs

-- The argument cells of row r, whose function is f.
unfoldable pub cells_in : List ℕ → List ℕ → ℕ → ℕ → List ℕ
cells_in arities cells f r = take (get_or arities f 0) (drop (r * 9) cells)

-- The output number, the head cost and the child numbers of row r.
unfoldable pub output_in : List ℕ → List ℕ → List ℕ → List ℕ → List ℕ → ℕ → ℕ
output_in bases arities outputs row_functions cells r =
    output_number bases arities outputs cells (get_or row_functions r 0) r

unfoldable pub head_in : List ℕ → List ℕ → List ℕ → ℕ → ℕ
head_in declared costs row_functions r =
    head_cost (get_or declared (get_or row_functions r 0) 0) (get_or costs (get_or row_functions r 0) 0)

unfoldable pub children_in : List ℕ → List ℕ → List ℕ → List ℕ → List ℕ → List ℕ → ℕ → List ℕ
children_in kinds bases arities arguments row_functions cells r =
    child_numbers kinds bases
    (arguments_in arities arguments (get_or row_functions r 0))
    (cells_in arities cells (get_or row_functions r 0) r)

-- Row r of the arrays.
unfoldable pub row_in :
    List ℕ → List ℕ → List ℕ → List ℕ → List ℕ → List ℕ → List ℕ → List ℕ → List ℕ → ℕ → Row
row_in kinds bases declared costs outputs arities arguments row_functions cells r =
    row_of
    (output_in bases arities outputs row_functions cells r)
    (head_in declared costs row_functions r)
    (children_in kinds bases arities arguments row_functions cells r)
