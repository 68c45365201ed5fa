-- What the builder is to build: of each class the row that the prices name. Assumes nothing: definitions.
use Rattle.std.specs.Prelude.{List, map, ℕ, get_or}
use Rattle.choice_rules.specs.Rows.{Child, literal, class, row_at}
use Rattle.build.specs.Plan.{Child as PlanChild, class as plan_class, value, Plan}
use Rattle.file_rules.specs.Table.{Table}
use Rattle.table_rules.specs.Rules.Rows.{table_rows}
use Rattle.table_rules.specs.Rules.Terms.{literal_of, name_of}
use Rattle.table_rules.specs.Rules.Choosing.{Prices}

-- A child as the builder sees it: a literal by its value.
unfoldable pub plan_child : Table → Child → PlanChild
plan_child t (literal i) = value (literal_of t i)
plan_child t (class c) = plan_class c

-- A row's children, left to right.
unfoldable pub plan_children : Table → ℕ → List PlanChild
plan_children t r = map (plan_child t) (row_at (table_rows t) r).children

-- Each class by its row.
unfoldable pub plan_for : Table → Prices → Plan
plan_for t p = record {
  name = λ (c : ℕ). name_of t (p.row c);
  children = λ (c : ℕ). plan_children t (p.row c);
}

-- The order number of a class, and its cost.
abbrev pub order_for : Prices → ℕ → ℕ
order_for p c = get_or p.orders c 0

abbrev pub cost_of : Prices → ℕ → ℕ
cost_of p c = get_or p.costs c 0
