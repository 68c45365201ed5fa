-- A table as large as the limits allow: document 01, 'The table file', "The longest valid file has 21,385 bytes."
-- Assumes nothing: definitions.
use Rattle.std.specs.Prelude.{ℕ, zero, suc, ◌+◌, ◌/◌, ◌%◌, List, [], ◌∷◌, pos, replicate}
use Rattle.file_rules.specs.Table.{Sort, Function, Row, Table}

-- 31 eq sorts; the first has all 512 classes.
abbrev pub long_sorts : List Sort
long_sorts = record { kind = 1; classes = 512 } ∷ replicate 30 (record { kind = 1; classes = 0 })

-- A name of 31 bytes: two letters that tell the number, and 29 times `a`.
abbrev pub long_name : ℕ → List ℕ
long_name i = (97 + i % 16) ∷ (97 + i / 16) ∷ replicate 29 97

-- A function with a cost, and with 8 arguments.
abbrev pub long_function : ℕ → Function
long_function i =
    record {
      name = long_name i;
      has_cost = 1;
      cost = 0;
      unextractable = 0;
      hidden = 0;
      output = 0;
      arguments = replicate 8 0;
    }

-- n functions, the first of number i.
unfoldable pub long_functions : ℕ → ℕ → List Function
long_functions zero i = []
long_functions (suc n) i = long_function i ∷ long_functions n (i + 1)

abbrev pub long_row : Row
long_row = record { function = 0; subsumed = 0; cells = replicate 9 0 }

-- The table of l literals, n functions and r rows.
unfoldable pub large : ℕ → ℕ → ℕ → Table
large l n r =
    record {
      sorts = long_sorts;
      literals = replicate l (pos 0);
      functions = long_functions n 0;
      rows = replicate r long_row;
    }

unfoldable pub longest : Table
longest = large 511 127 1024
