-- True prices: the tree that their rows choose is a cheapest one, and demand 3 of document 00 holds of the run over any
-- accepted table. Assumes nothing.
use mathlib.Core.Path.{◌≡◌, refl, sym, ◌∙◌, subst}
use mathlib.Core.Bool.{true}
use mathlib.Core.List.{List, [], ◌∷◌}
use Prim.Native.Nat.{ℕ, ◌<◌}
use native.Mathlib.Omega.{arith}
use borrow.Author.Tests.{ltb-true, lt-ltb}
use lib.Dec.{ltb}
use lib.ListN.{length, get_or}
use Rattle.order.proofs.OrderLaws.{cases}
use Rattle.choice_rules.specs.Rows.{Row, class, row_at, child_at}
use Rattle.choice_rules.specs.Run.{row_cost}
use Rattle.choice_rules.specs.Deriving.{Tree, Once}
use Rattle.choice_rules.specs.Edges.{Under, Edge, Chosen}
use Rattle.choice_rules.specs.Answer.{best, answer_of}
use Rattle.choice_rules.proofs.ChosenLaws.{choice}
use Rattle.choice_rules.proofs.Promises.{promises}
use Rattle.choice_rules.specs.Demand.Deriving.{Cheapest, Answered}
use Rattle.choice_rules.proofs.Demand.OrderLaws.{in_order-length, in_order-get}
use Rattle.choice_rules.proofs.Demand.DemandLaws.{answered-of-right}
use Rattle.file_rules.specs.Table.{Table}
use Rattle.table_rules.specs.Order.{Within, Apart}
use Rattle.table_rules.proofs.OrderLaws.{rows_in_order-apart}
use Rattle.table_rules.specs.Rules.Classes.{class_count}
use Rattle.table_rules.specs.Rules.Rows.{table_rows, usable}
use Rattle.table_rules.specs.Rules.Order.{view_of, scan_order, scanned}
use Rattle.table_rules.specs.Rules.Choosing.{
  limit,
  Prices,
  answer_for,
  run_over,
  edge_for,
  edge_row,
  prices_over,
  prices_for,
}
use Rattle.table_rules.specs.Rules.Prices.{Priced, TruePrices}
use Rattle.table_rules.specs.Rules.Facts.{Known}
use Rattle.table_rules.proofs.Rules.CoverLaws.{
  Reached,
  ReachedClass,
  one_below,
  view-sound,
  scan_order-covers,
  scanned-within,
}

differ : {P : Type 0} → ◌≡◌ {A = ℕ} 0 1 → P
differ z = absurd (omega arith)

-- what prices say of a class with a cost, and what a cost says of the prices
module _ (p : Prices) (c : ℕ) where
  pub answer-of-priced : Priced p c → answer_for p c ≡ best (get_or p.costs c 0)
  unfolding answer_for answer_of
  answer-of-priced q =
      rw (lt-ltb 0 (get_or p.orders c 0) q.ranked, lt-ltb (get_or p.costs c 0) limit q.below) refl

  pub priced-of-answer : (w : ℕ) → answer_for p c ≡ best w → Priced p c
  unfolding answer_for answer_of
  priced-of-answer w e =
      cases (ltb 0 (get_or p.orders c 0))
      (λ a.
      cases (ltb (get_or p.costs c 0) limit)
      (λ b.
      record { ranked = ltb-true 0 (get_or p.orders c 0) a; below = ltb-true (get_or p.costs c 0) limit b })
      (λ b. differ (let z = rw (a, b) at e in cc)))
      (λ a. differ (let z = rw a at e in cc))

-- the tree that the prices' rows choose, a cheapest deriving one, in which no class is met twice on a path
pub record ChosenTree (t : Table) (p : Prices) (c w : ℕ) : Type 0 where
  pub tree : Tree
  pub chosen : Chosen (table_rows t) p.row tree (class c)
  pub cheapest : Cheapest (table_rows t) (usable t) c w tree
  pub once : Once (table_rows t) [] tree
  pub below : w < limit

module _ (t : Table) (In : ℕ → Type 0) (p : Prices) (true-ones : TruePrices t In p) where
  pub chosen-tree : (c w : ℕ) → In c → answer_for p c ≡ best w → ChosenTree t p c w
  chosen-tree c w r e =
      let q : Priced p c = priced-of-answer p c w e in
      let a : Answered limit (table_rows t) (usable t) c (best w) =
      subst (Answered limit (table_rows t) (usable t) c) e (true-ones.right c r) in
      let same : get_or p.costs c 0 ≡ w = same-cost (sym (answer-of-priced p c q) ∙ e) in
      let x = choice limit (table_rows t) p.costs p.orders p.row
      (λ d k h. true-ones.named d (record { ranked = k; below = h }))
      (usable t) (λ d k h. true-ones.is_usable d (record { ranked = k; below = h })) c q.ranked q.below in
      record {
        tree = x.tree;
        chosen = x.chosen;
        cheapest = record {
          is_deriving = record { derives = x.derives; all_usable = x.all_usable };
          exact = x.cost ∙ same;
          least = a.1.1.least;
        };
        once = x.once [] tt;
        below = a.0;
      }
    where
      same-cost : {a b : ℕ} → best a ≡ best b → a ≡ b
      same-cost h = cc

-- the run's prices are true
module _ (t : Table) (k : Known t) (roots : List ℕ) (h : Within (length t.sorts) roots) where
  run-right : (c : ℕ) → Reached t roots c → Answered limit (table_rows t) (usable t) c (answer_for (prices_over t roots) c)
  unfolding answer_for run_over scanned
  run-right c r =
      answered-of-right (table_rows t) (usable t) (scan_order t roots) (Reached t roots) (scan_order-covers t k roots h)
      limit c r (answer_for (prices_over t roots) c)
      ((promises limit (scanned t roots) (class_count t) (scanned-within t k roots h)).right c)

  -- the edge of a class, in the scan order and in the file
  module _ (c : ℕ) (q : Priced (prices_over t roots) c) where
    scanned-edge :
        Edge limit (run_over t roots).state.costs (run_over t roots).state.ranks (scanned t roots) c (edge_for t roots c)
    unfolding run_over edge_for
    scanned-edge =
        (promises limit (scanned t roots) (class_count t) (scanned-within t k roots h)).edge c q.ranked q.below

    place : edge_for t roots c < length (scan_order t roots)
    unfolding scanned
    place =
        subst (λ (n : ℕ). edge_for t roots c < n) (in_order-length (table_rows t) (scan_order t roots)) scanned-edge.known

    row_is : row_at (scanned t roots) (edge_for t roots c) ≡ row_at (table_rows t) (edge_row t roots c)
    unfolding scanned edge_row
    row_is = in_order-get (table_rows t) (scan_order t roots) (edge_for t roots c) place

    run-named :
        Edge limit (run_over t roots).state.costs (run_over t roots).state.ranks (table_rows t) c (edge_row t roots c)
    unfolding edge_row
    run-named = record {
      known = (scan_order-covers t k roots h).known (edge_for t roots c) place;
      output = subst (λ (r : Row). r.output ≡ c) row_is scanned-edge.output;
      cost =
          subst
          (λ (r : Row). row_cost limit (run_over t roots).state.costs r ≡ get_or (run_over t roots).state.costs c 0)
          row_is scanned-edge.cost;
      under =
          subst
          (λ (r : Row).
          (j : ℕ) →
          j < length r.children →
          Under limit (run_over t roots).state.costs (run_over t roots).state.ranks
          (get_or (run_over t roots).state.ranks c 0) (child_at r j))
          row_is scanned-edge.under;
    }

    run-usable : usable t (edge_row t roots c) ≡ true
    unfolding edge_row
    run-usable = (scan_order-covers t k roots h).usable_ones (edge_for t roots c) place

  scan-apart : Apart (length t.rows) (scan_order t roots)
  unfolding scan_order view_of
  scan-apart = rows_in_order-apart (view_of t) roots (view-sound t k roots h)

  pub prices-true : TruePrices t (Reached t roots) (prices_over t roots)
  prices-true = record {
    covers = scan_order-covers t k roots h;
    apart = scan-apart;
    right = run-right;
    named = run-named;
    is_usable = run-usable;
  }

pub run-true :
    (t : Table) → Known t → (root : ℕ) → root < length t.sorts → TruePrices t (ReachedClass t root) (prices_for t root)
run-true t k root h = prices-true t k (root ∷ []) (one_below (length t.sorts) root h)
