-- The table's arrays as the scan reads them. Assumes nothing: these are definitions.
use Rattle.std.specs.Prelude.{ℕ, ◌*◌, ◌≤◌, ◌<◌, ◌≡◌, Bool, ◌&&◌, List, length, get_or, take, drop, eqb}
use Rattle.table_rules.specs.View.{ScanView, is_usable, is_unsubsumed}
use Rattle.table_rules.specs.Order.{Within, picked, in_turn}

-- Whether item x has the key and is not barred.
abbrev pub belongs_to : List ℕ → List ℕ → ℕ → ℕ → Bool
belongs_to keys barred key x = eqb (get_or barred x 0) 0 && eqb (get_or keys x 0) key

-- The first n items that have the key and are not barred, in file order.
unfoldable pub held_by : List ℕ → List ℕ → ℕ → ℕ → List ℕ
held_by keys barred n key = picked (belongs_to keys barred key) 0 n

-- The argument sorts of function f: eight places each, as many used as its arity says.
unfoldable pub arguments_in : List ℕ → List ℕ → ℕ → List ℕ
arguments_in arities arguments f = take (get_or arities f 0) (drop (f * 8) arguments)

-- The argument sorts that a visit of a sort brings.
unfoldable pub brought_in : ℕ → List ℕ → List ℕ → List ℕ → List ℕ → ℕ → List ℕ
brought_in n outputs barred arities arguments sort =
    in_turn (arguments_in arities arguments) (held_by outputs barred n sort)

-- The table that stands in the arrays.
unfoldable pub view_in : ℕ → ℕ → ℕ → List ℕ → List ℕ → List ℕ → List ℕ → List ℕ → List ℕ → List ℕ → ScanView
view_in sorts functions rows outputs arities arguments unextractable hidden row_functions subsumed = record {
  sorts = sorts;
  functions = functions;
  rows = rows;
  usable = λ (f : ℕ). is_usable (get_or unextractable f 0) (get_or hidden f 0);
  output = λ (f : ℕ). get_or outputs f 0;
  arguments = arguments_in arities arguments;
  function = λ (r : ℕ). get_or row_functions r 0;
  unsubsumed = λ (r : ℕ). is_unsubsumed (get_or subsumed r 0);
}

-- barred is 0 exactly at the usable ones of the first n functions.
abbrev pub Barred : List ℕ → List ℕ → ℕ → List ℕ → Type 0
Barred unextractable hidden n barred =
    (f : ℕ) → f < n → eqb (get_or barred f 0) 0 ≡ is_usable (get_or unextractable f 0) (get_or hidden f 0)

-- The first n functions have their argument sorts in the arrays, all of them below the number of sorts.
pub record Columns (sorts n : ℕ) (arities arguments : List ℕ) : Type 0 where
  pub arities_long : n ≤ length arities
  pub arguments_long : n * 8 ≤ length arguments
  pub arity_most : (f : ℕ) → f < n → get_or arities f 0 ≤ 8
  pub below : (f : ℕ) → f < n → Within sorts (arguments_in arities arguments f)

-- What a loop leaves: the first r places of its list hold what is wanted.
pub record Filled (list : List ℕ) (r : ℕ) (wanted : List ℕ) : Type 0 where
  pub room : r ≤ length list
  pub held : take r list ≡ wanted

-- What scan_rows asks of its arguments.
pub record ScanArrays (sorts functions rows : ℕ)
    (roots outputs arities arguments unextractable hidden row_functions subsumed order : List ℕ) : Type 0 where
  pub sorts_most : sorts ≤ 32
  pub functions_most : functions ≤ 128
  pub roots_below : Within sorts roots
  pub outputs_long : functions ≤ length outputs
  pub unextractable_long : functions ≤ length unextractable
  pub hidden_long : functions ≤ length hidden
  pub columns : Columns sorts functions arities arguments
  pub row_functions_long : rows ≤ length row_functions
  pub subsumed_long : rows ≤ length subsumed
  pub order_long : rows ≤ length order
