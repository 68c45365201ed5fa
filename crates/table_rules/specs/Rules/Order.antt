-- The scan order of a table's rows. Assumes nothing: definitions.
use Rattle.std.specs.Prelude.{List, ℕ, eqb, length}
use Rattle.choice_rules.specs.Rows.{Row}
use Rattle.choice_rules.specs.Demand.Orders.{in_order}
use Rattle.file_rules.specs.Table.{Table}
use Rattle.table_rules.specs.View.{ScanView}
use Rattle.table_rules.specs.Order.{rows_in_order}
use Rattle.table_rules.specs.Rules.Rows.{function_of, table_row_of, usable_function, table_rows}

-- The table as far as the scan order goes by it.
unfoldable pub view_of : Table → ScanView
view_of t = record {
  sorts = length t.sorts;
  functions = length t.functions;
  rows = length t.rows;
  usable = λ (f : ℕ). usable_function (function_of t f);
  output = λ (f : ℕ). (function_of t f).output;
  arguments = λ (f : ℕ). (function_of t f).arguments;
  function = λ (r : ℕ). (table_row_of t r).function;
  unsubsumed = λ (r : ℕ). eqb (table_row_of t r).subsumed 0;
}

-- The numbers of the usable rows that the root sorts reach, in scan order.
unfoldable pub scan_order : Table → List ℕ → List ℕ
scan_order t roots = rows_in_order (view_of t) roots

-- These rows.
unfoldable pub scanned : Table → List ℕ → List Row
scanned t roots = in_order (table_rows t) (scan_order t roots)
