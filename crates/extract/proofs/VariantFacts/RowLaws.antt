-- A row with a cost below 2^64-1 can be built: its children have terms of a rank that is enough. Assumes nothing.
use mathlib.Core.Path.{◌≡◌, subst}
use mathlib.Core.Bool.{true}
use mathlib.Core.List.{List, [], ◌∷◌, map}
use Prim.Native.Nat.{ℕ, ◌+◌, ◌<◌, min}
use native.Mathlib.Omega.{arith}
use borrow.Author.Tests.{ltb-true}
use lib.ListN.{length}
use Rattle.choice_rules.specs.Rows.{Child, literal, class, Row, row_at, sum_of}
use Rattle.choice_rules.specs.Run.{child_cost, priced, row_priced, row_cost}
use Rattle.choice_rules.proofs.ListLaws.{Each, each-of-sum, all-each}
use Rattle.choice_rules.proofs.Demand.OrderLaws.{in_order-length, in_order-get}
use Rattle.build.specs.Ready.{Lower, AllLower}
use Rattle.file_rules.specs.Table.{Table}
use Rattle.table_rules.specs.Rules.Rows.{table_rows}
use Rattle.table_rules.specs.Rules.Choosing.{limit, Prices}
use Rattle.table_rules.specs.Rules.Prices.{TruePrices}
use Rattle.table_rules.specs.Rules.Facts.{Known}
use Rattle.answer_rules.specs.Plan.{plan_child, plan_children, order_for}
use Rattle.answer_rules.specs.Variants.{file_row, cost_for, rows_for, depth_for}
use Rattle.answer_rules.proofs.PlanLaws.{build_rank, build_rank-below, order-within}

pub below-min : (M h s : ℕ) → min M (h + s) < M → s < M
below-min M h s l = omega arith

module _ (t : Table) (k : Known t) (In : ℕ → Type 0) (ps : Prices) (tp : TruePrices t In ps) where
  child-lower :
      (x : Child) →
      priced ps.orders x ≡ true →
      child_cost ps.costs x < limit →
      Lower (build_rank ps) (depth_for ps) (plan_child t x)
  unfolding plan_child priced child_cost
  child-lower (literal i) p l = tt
  child-lower (class c) p l =
      let e : build_rank ps c ≡ order_for ps c = build_rank-below ps c l in
      rw e (ltb-true 0 (order_for ps c) p, order-within ps c)

  children-lower :
      (xs : List Child) →
      Each (λ (x : Child). priced ps.orders x ≡ true) xs →
      Each (λ (x : Child). child_cost ps.costs x < limit) xs →
      AllLower (build_rank ps) (depth_for ps) (map (plan_child t) xs)
  children-lower [] p l = tt
  children-lower (x ∷ xs) p l = (child-lower x p.0 l.0, children-lower xs p.1 l.1)

  pub row_is : (i : ℕ) → i < length (rows_for t ps) → row_at (rows_for t ps) i ≡ row_at (table_rows t) (file_row ps i)
  row_is i l =
      in_order-get (table_rows t) ps.order i
      (subst (λ (n : ℕ). i < n) (in_order-length (table_rows t) ps.order) l)

  pub row-lower :
      (i : ℕ) →
      i < length (rows_for t ps) →
      row_priced ps.orders (row_at (rows_for t ps) i) ≡ true →
      cost_for t ps i < limit →
      AllLower (build_rank ps) (depth_for ps) (plan_children t (file_row ps i))
  unfolding plan_children cost_for row_cost
  row-lower i l p c =
      let r : Row = row_at (rows_for t ps) i in
      subst
      (λ (x : Row). AllLower (build_rank ps) (depth_for ps) (map (plan_child t) x.children))
      (row_is i l)
      (children-lower r.children (all-each (priced ps.orders) r.children p)
      (each-of-sum (child_cost ps.costs) limit r.children
      (below-min limit r.head (sum_of (child_cost ps.costs) r.children) c)))
