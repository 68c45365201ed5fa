-- The plan of true prices can be built by: names are valid, children few, and order numbers fall. Assumes nothing.
use mathlib.Core.Path.{◌≡◌, refl}
use mathlib.Core.Bool.{true, false}
use mathlib.Core.List.{List, [], ◌∷◌, map}
use Prim.Native.Nat.{ℕ, zero, suc, ◌<◌, ◌≤◌}
use native.Mathlib.Omega.{arith}
use borrow.Author.Tests.{ltb-true, lt-ltb, le-ltb}
use lib.Dec.{ltb}
use lib.ListN.{length, get_or}
use Rattle.order.proofs.OrderLaws.{cases}
use Rattle.choice_rules.specs.Rows.{Child, literal, class, row_at, sum_of}
use Rattle.choice_rules.specs.Edges.{Under}
use Rattle.choice_rules.proofs.Demand.OrderLaws.{map-length}
use Rattle.build.specs.Ready.{Lower, AllLower, Ranked}
use Rattle.file_rules.specs.Table.{Table}
use Rattle.table_rules.specs.Rules.Rows.{table_row_of, table_rows}
use Rattle.table_rules.specs.Rules.Choosing.{limit, Prices}
use Rattle.table_rules.specs.Rules.Prices.{Priced, TruePrices}
use Rattle.table_rules.specs.Rules.Facts.{Known}
use Rattle.table_rules.proofs.Rules.CoverLaws.{table_rows-length, children-length}
use Rattle.answer_rules.specs.Plan.{plan_child, plan_children, plan_for, order_for, cost_of}
use Rattle.answer_rules.specs.Variants.{depth_for}

-- no order number is above the depth that is enough
at-most-sum : (xs : List ℕ) (c : ℕ) → get_or xs c 0 ≤ sum_of (λ (x : ℕ). x) xs
unfolding sum_of
at-most-sum [] c = omega arith
at-most-sum (x ∷ xs) zero = omega arith
at-most-sum (x ∷ xs) (suc c) = omega (arith, at-most-sum xs c)

pub order-within : (p : Prices) (c : ℕ) → order_for p c < depth_for p
order-within p c = omega (arith, at-most-sum p.orders c)

-- the order number of a class whose term can be built, and 0 of any other
pub build_rank : Prices → ℕ → ℕ
build_rank p c = elim (ltb (cost_of p c) limit) [ true ↦ order_for p c | false ↦ 0 ]

module _ (p : Prices) (c : ℕ) where
  pub build_rank-below : cost_of p c < limit → build_rank p c ≡ order_for p c
  unfolding build_rank
  build_rank-below h = rw (lt-ltb (cost_of p c) limit h, build_rank)

  pub build_rank-unranked : order_for p c ≡ 0 → build_rank p c ≡ 0
  unfolding build_rank
  build_rank-unranked h = cases (ltb (cost_of p c) limit) (λ e. rw (e, build_rank) h) (λ e. rw (e, build_rank) refl)

  pub build_rank-dear : limit ≤ cost_of p c → build_rank p c ≡ 0
  unfolding build_rank
  build_rank-dear h = rw (le-ltb (cost_of p c) limit h, build_rank) refl

  pub priced-of-build_rank : 0 < build_rank p c → Priced p c
  unfolding build_rank
  priced-of-build_rank h =
      cases (ltb (cost_of p c) limit)
      (λ e. record { ranked = rw (e, build_rank) at h; below = ltb-true (cost_of p c) limit e })
      (λ e. absurd (omega (arith, rw (e, build_rank) at h)))

-- children that are all under an order number fall to it
module _ (t : Table) (p : Prices) (b : ℕ) where
  child-lower : (k : Child) → Under limit p.costs p.orders b k → Lower (build_rank p) b (plan_child t k)
  unfolding plan_child
  child-lower (literal i) u = tt
  child-lower (class d) u =
      let e : build_rank p d ≡ order_for p d = build_rank-below p d u.2 in
      rw e (u.0, u.1)

  children-lower :
      (ks : List Child) →
      ((j : ℕ) → j < length ks → Under limit p.costs p.orders b (get_or ks j (literal 0))) →
      AllLower (build_rank p) b (map (plan_child t) ks)
  children-lower [] u = tt
  children-lower (k ∷ ks) u =
      (child-lower k (u 0 (omega arith)), children-lower ks (λ j h. u (suc j) (omega arith)))

module _ (t : Table) (k : Known t) (In : ℕ → Type 0) (p : Prices) (tp : TruePrices t In p) where
  pub row-known : (c : ℕ) → 0 < build_rank p c → p.row c < length t.rows
  row-known c l = omega (arith, (tp.named c (priced-of-build_rank p c l)).known, table_rows-length t)

  pub plan-ranked : Ranked (plan_for t p) (build_rank p)
  unfolding plan_for plan_children
  plan-ranked = record {
    named = λ c l. k.name (table_row_of t (p.row c)).function (k.function (p.row c) (row-known c l));
    few = λ c l.
        let r = row-known c l in
        rw (map-length (plan_child t) (row_at (table_rows t) (p.row c)).children)
        (omega (
          arith,
          children-length t k (p.row c) r,
          k.arity (table_row_of t (p.row c)).function (k.function (p.row c) r),
        ));
    lower = λ c l.
        let q = priced-of-build_rank p c l in
        let e : build_rank p c ≡ order_for p c = build_rank-below p c q.below in
        rw e
        (children-lower t p (order_for p c) (row_at (table_rows t) (p.row c)).children (tp.named c q).under);
  }
