-- The costs and the choice of terms for root sorts of a table. Assumes nothing: definitions.
use Rattle.std.specs.Prelude.{List, [], ◌∷◌, ℕ, ◌-◌, ◌^◌, get_or}
use Rattle.choice_rules.specs.Run.{Run, run}
use Rattle.choice_rules.specs.Edges.{edge_of}
use Rattle.choice_rules.specs.Answer.{Answer, answer_of}
use Rattle.file_rules.specs.Table.{Table}
use Rattle.table_rules.specs.Rules.Classes.{class_count}
use Rattle.table_rules.specs.Rules.Order.{scan_order, scanned}

-- The number at which costs saturate.
abbrev pub limit : ℕ
limit = 2 ^ 64 - 1

-- What a table is priced at: the numbers of the rows that count, in scan order; of each class its cost, its order
-- number and the row of the file that its term begins with. Order numbers are from 1, and 0 marks a class without a
-- cost.
pub record Prices : Type 0 where
  pub order : List ℕ
  pub costs : List ℕ
  pub orders : List ℕ
  pub row : ℕ → ℕ

-- What the prices say of a class: no term, too dear, or its cost.
unfoldable pub answer_for : Prices → ℕ → Answer
answer_for p c = answer_of limit p.costs p.orders c

-- "Passes repeat until one changes nothing", over the rows that the root sorts reach, in scan order.
unfoldable pub run_over : Table → List ℕ → Run
run_over t roots = run limit (scanned t roots) (class_count t)

-- A class's edge, as a place in the scan order and as a row of the file.
unfoldable pub edge_for : Table → List ℕ → ℕ → ℕ
edge_for t roots c = edge_of limit (run_over t roots).state.costs (run_over t roots).state.ranks (scanned t roots) c

unfoldable pub edge_row : Table → List ℕ → ℕ → ℕ
edge_row t roots c = get_or (scan_order t roots) (edge_for t roots c) 0

-- The run's prices: its costs, its ranks for order numbers, and each class's edge.
abbrev pub prices_over : Table → List ℕ → Prices
prices_over t roots = record {
  order = scan_order t roots;
  costs = (run_over t roots).state.costs;
  orders = (run_over t roots).state.ranks;
  row = edge_row t roots;
}

-- The run and its prices for one root sort, which is all that best and variants ask for. A request for several root
-- sorts (document 02) goes by the two above.
abbrev pub run_of : Table → ℕ → Run
run_of t root = run_over t (root ∷ [])

abbrev pub prices_for : Table → ℕ → Prices
prices_for t root = prices_over t (root ∷ [])
