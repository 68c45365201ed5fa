-- What the fillings ask of a table's arrays, and what they leave. Assumes nothing: these are definitions.
use Rattle.std.specs.Prelude.{ℕ, ◌+◌, ◌*◌, ◌≤◌, ◌<◌, ◌≡◌, List, map, length, get_or, take}
use Rattle.choice_rules.specs.Rows.{sum_of}
use Rattle.price_passes.specs.Flat.{rows_of}
use Rattle.table_rules.specs.Order.{in_turn}
use Rattle.table_rules.specs.Arrays.{arguments_in, Columns, Filled}
use Rattle.table_flat.specs.Rows.{cells_in, output_in, head_in, children_in, row_in}

-- The arrays of a table with n classes in all: every sort, function and cell is in range.
pub record RowArrays (sorts functions rows n : ℕ)
    (kinds bases declared costs outputs arities arguments row_functions cells : List ℕ) : Type 0 where
  pub few_classes : n ≤ 512
  pub kinds_long : sorts ≤ length kinds
  pub bases_long : sorts ≤ length bases
  pub declared_long : functions ≤ length declared
  pub costs_long : functions ≤ length costs
  pub outputs_long : functions ≤ length outputs
  pub columns : Columns sorts functions arities arguments
  pub row_functions_long : rows ≤ length row_functions
  pub cells_long : rows * 9 ≤ length cells
  pub output_below : (f : ℕ) → f < functions → get_or outputs f 0 < sorts
  pub function_below : (r : ℕ) → r < rows → get_or row_functions r 0 < functions
  pub base_small : (s : ℕ) → s < sorts → get_or bases s 0 ≤ 512
  pub cell_small :
      (r j : ℕ) → r < rows → j < get_or arities (get_or row_functions r 0) 0 → get_or cells (r * 9 + j) 0 < 512
  pub output_class : (r : ℕ) → r < rows → output_in bases arities outputs row_functions cells r < n
  pub child_class :
      (r j : ℕ) → r < rows → j < get_or arities (get_or row_functions r 0) 0 →
      get_or kinds (get_or arguments (get_or row_functions r 0 * 8 + j) 0) 0 ≡ 1 →
      get_or bases (get_or arguments (get_or row_functions r 0 * 8 + j) 0) 0 + get_or cells (r * 9 + j) 0 < n

-- The order has at most 1,024 rows, each of them one of the table's.
pub record Listed (rows : ℕ) (order : List ℕ) : Type 0 where
  pub few : length order ≤ 1024
  pub below : (k : ℕ) → k < length order → get_or order k 0 < rows

-- The first places of a list are f of the numbers in the order.
pub record Mapped (f : ℕ → ℕ) (order list : List ℕ) : Type 0 where
  pub room : length order ≤ length list
  pub is : take (length order) list ≡ map f order

-- Each place has the sum of f over the numbers of the order before it.
pub record Sums (f : ℕ → ℕ) (order starts : List ℕ) : Type 0 where
  pub room : length order < length starts
  pub is : (k : ℕ) → k ≤ length order → get_or starts k 0 ≡ sum_of f (take k order)

-- Each number in the order is fit.
abbrev pub Each : (ℕ → Type 0) → List ℕ → Type 0
Each P order = (k : ℕ) → k < length order → P (get_or order k 0)

-- Row r's output cell can be read.
pub record OutputFits (bases arities outputs row_functions cells : List ℕ) (r : ℕ) : Type 0 where
  pub row : r < length row_functions
  pub arity : get_or row_functions r 0 < length arities
  pub output : get_or row_functions r 0 < length outputs
  pub sort : get_or outputs (get_or row_functions r 0) 0 < length bases
  pub cell : r * 9 + get_or arities (get_or row_functions r 0) 0 < length cells
  pub small : output_in bases arities outputs row_functions cells r < 512

-- Row r's head cost can be read.
pub record HeadFits (declared costs row_functions : List ℕ) (r : ℕ) : Type 0 where
  pub row : r < length row_functions
  pub declared_long : get_or row_functions r 0 < length declared
  pub costs_long : get_or row_functions r 0 < length costs

-- The arity of row r's function, which is at most 8.
abbrev pub arity_in : List ℕ → List ℕ → ℕ → ℕ
arity_in arities row_functions r = get_or arities (get_or row_functions r 0) 0

pub record ArityFits (arities row_functions : List ℕ) (r : ℕ) : Type 0 where
  pub row : r < length row_functions
  pub arity : get_or row_functions r 0 < length arities
  pub most : arity_in arities row_functions r ≤ 8

-- Cells that can be numbered, each by its own sort.
pub record CellsFit (kinds bases sorts cells : List ℕ) : Type 0 where
  pub kind : (j : ℕ) → j < length sorts → get_or sorts j 0 < length kinds
  pub base : (j : ℕ) → j < length sorts → get_or sorts j 0 < length bases
  pub base_small : (j : ℕ) → j < length sorts → get_or bases (get_or sorts j 0) 0 ≤ 512
  pub cell_small : (j : ℕ) → j < length sorts → get_or cells j 0 < 512

-- Row r's argument cells can be read and numbered.
pub record ChildrenFit (kinds bases arities arguments row_functions cells : List ℕ) (r : ℕ) : Type 0 where
  pub row : r < length row_functions
  pub arity : get_or row_functions r 0 < length arities
  pub arguments_long : get_or row_functions r 0 * 8 + get_or arities (get_or row_functions r 0) 0 ≤ length arguments
  pub cells_long : r * 9 + get_or arities (get_or row_functions r 0) 0 ≤ length cells
  pub fit :
      CellsFit kinds bases
      (arguments_in arities arguments (get_or row_functions r 0)) (cells_in arities cells (get_or row_functions r 0) r)

-- The four lists have room for the rows in the order.
pub record Room (order outputs heads starts children : List ℕ) : Type 0 where
  pub outputs_room : length order ≤ length outputs
  pub heads_room : length order ≤ length heads
  pub starts_room : length order < length starts
  pub children_room : length order * 8 ≤ length children

-- Each row in the order can be laid; there are at most 1,024.
pub record RowsFit (kinds bases declared costs outputs arities arguments row_functions cells order : List ℕ) : Type 0
  where
    pub few : length order ≤ 1024
    pub outputs_fit : Each (OutputFits bases arities outputs row_functions cells) order
    pub heads_fit : Each (HeadFits declared costs row_functions) order
    pub arities_fit : Each (ArityFits arities row_functions) order
    pub children_fit : Each (ChildrenFit kinds bases arities arguments row_functions cells) order

-- What stands in the four lists, m children in all, and that this is the rows in the order.
pub record Laid (kinds bases declared costs outputs arities arguments row_functions cells order : List ℕ) (m : ℕ)
    (classes heads starts children : List ℕ) : Type 0 where
  pub classes_are : Mapped (output_in bases arities outputs row_functions cells) order classes
  pub heads_are : Mapped (head_in declared costs row_functions) order heads
  pub starts_are : Sums (arity_in arities row_functions) order starts
  pub children_are : Filled children m (in_turn (children_in kinds bases arities arguments row_functions cells) order)
  pub rows :
      rows_of (take (length order) classes) (take (length order) heads) (take (length order + 1) starts)
      (take m children)
      ≡ map (row_in kinds bases declared costs outputs arities arguments row_functions cells) order
