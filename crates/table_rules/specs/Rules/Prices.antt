-- When prices are true: what best and variants may go by. The run's are, and so may be others. Assumes nothing:
-- definitions.
use Rattle.std.specs.Prelude.{◌≡◌, true, ℕ, ◌<◌, length, get_or}
use Rattle.choice_rules.specs.Edges.{Edge}
use Rattle.choice_rules.specs.Demand.Deriving.{Answered}
use Rattle.choice_rules.specs.Demand.Orders.{Covers}
use Rattle.file_rules.specs.Table.{Table}
use Rattle.table_rules.specs.Order.{Apart}
use Rattle.table_rules.specs.Rules.Rows.{table_rows, usable}
use Rattle.table_rules.specs.Rules.Choosing.{limit, Prices, answer_for}

-- A class whose term can be built: it has a cost, below 2^64-1.
pub record Priced (p : Prices) (c : ℕ) : Type 0 where
  pub ranked : 0 < get_or p.orders c 0
  pub below : get_or p.costs c 0 < limit

-- In is the set of classes that are priced, closed under the children of usable rows. The order has the usable rows
-- of these classes, none twice; what is said of such a class is demand 3's; and the row of a class whose term can be
-- built is usable, has that class as output and attains its cost, with order numbers that fall to every eq child.
pub record TruePrices (t : Table) (In : ℕ → Type 0) (p : Prices) : Type 0 where
  pub covers : Covers (table_rows t) (usable t) p.order In
  pub apart : Apart (length t.rows) p.order
  pub right : (c : ℕ) → In c → Answered limit (table_rows t) (usable t) c (answer_for p c)
  pub named : (c : ℕ) → Priced p c → Edge limit p.costs p.orders (table_rows t) c (p.row c)
  pub is_usable : (c : ℕ) → Priced p c → usable t (p.row c) ≡ true
