-- Demand 3 over all rows, from demand 3 over the rows in scan order. Assumes nothing.
use mathlib.Core.Path.{◌≡◌, refl, ◌∙◌, subst}
use mathlib.Core.Bool.{Bool}
use mathlib.Core.List.{List}
use Prim.Native.Nat.{ℕ, ◌≤◌}
use native.Mathlib.Omega.{arith}
use Rattle.choice_rules.specs.Rows.{Row, class}
use Rattle.choice_rules.specs.Deriving.{Tree, Derives, tree_cost}
use Rattle.choice_rules.specs.Answer.{Answer, no_term, too_dear, best, Best, Right}
use Rattle.choice_rules.specs.Demand.Deriving.{Deriving, Cheapest, Answered}
use Rattle.choice_rules.specs.Demand.Orders.{in_order, renumber, Covers}
use Rattle.choice_rules.proofs.Demand.OrderLaws.{
  renumber-derives,
  renumber-usable,
  renumber-cost,
  Ordered,
  ordered,
}

module _ (rows : List Row) (usable : ℕ → Bool) (order : List ℕ) (In : ℕ → Type 0)
    (v : Covers rows usable order In) where
  -- a tree over the order is a deriving one
  pub deriving-of-order : (c : ℕ) (t : Tree) → Derives (in_order rows order) t (class c)
      → Deriving rows usable c (renumber order t)
  deriving-of-order c t d = record {
    derives = renumber-derives rows order v.known t (class c) d;
    all_usable = renumber-usable rows order usable v.usable_ones t (class c) d;
  }

  -- a deriving tree is one over the order, at the same cost
  pub order-of-deriving : (c : ℕ) → In c → (t : Tree) → Deriving rows usable c t → Ordered rows order t (class c)
  order-of-deriving c h t d =
      ordered rows usable order In v t (class c) (λ e q. subst In (same c e q) h) d.derives d.all_usable
    where
      same : (a b : ℕ) → class a ≡ class b → a ≡ b
      same a b q = cc

  -- the best tree over the order, renumbered, is a cheapest deriving one
  pub cheapest-of-best :
      (c : ℕ) → In c → (w : ℕ) (t : Tree) → Best (in_order rows order) c w t
      → Cheapest rows usable c w (renumber order t)
  cheapest-of-best c h w t b = record {
    is_deriving = deriving-of-order c t b.derives;
    exact = renumber-cost rows order t (class c) b.derives ∙ b.exact;
    least = λ u d.
        let o = order-of-deriving c h u d in
        subst (λ (n : ℕ). w ≤ n) o.cost (b.least o.tree o.derives);
  }

  -- an answer that is right over the order is demand 3's
  pub answered-of-right : (M c : ℕ) → In c → (a : Answer) → Right M (in_order rows order) c a
      → Answered M rows usable c a
  answered-of-right M c h no_term r = λ t d. let o = order-of-deriving c h t d in r o.tree o.derives
  answered-of-right M c h too_dear r = (
    (renumber order r.0.0, deriving-of-order c r.0.0 r.0.1),
    λ u d.
        let o = order-of-deriving c h u d in
        subst (λ (n : ℕ). M ≤ n) o.cost (r.1 o.tree o.derives),
  )
  answered-of-right M c h (best w) r = (r.0, (renumber order r.1.0, cheapest-of-best c h w r.1.0 r.1.1))

-- demand 3 allows one answer
module _ (M : ℕ) (rows : List Row) (usable : ℕ → Bool) (c : ℕ) where
  pub answered-unique : (a b : Answer) → Answered M rows usable c a → Answered M rows usable c b → a ≡ b
  answered-unique no_term no_term p q = refl
  answered-unique no_term too_dear p q = absurd (p q.0.0 q.0.1)
  answered-unique no_term (best w) p q = absurd (p q.1.0 q.1.1.is_deriving)
  answered-unique too_dear no_term p q = absurd (q p.0.0 p.0.1)
  answered-unique too_dear too_dear p q = refl
  answered-unique too_dear (best w) p q =
      let h : M ≤ tree_cost rows q.1.0 = p.1 q.1.0 q.1.1.is_deriving in
      absurd (omega (arith, h, q.0, q.1.1.exact))
  answered-unique (best w) no_term p q = absurd (q p.1.0 p.1.1.is_deriving)
  answered-unique (best w) too_dear p q =
      let h : M ≤ tree_cost rows p.1.0 = q.1 p.1.0 p.1.1.is_deriving in
      absurd (omega (arith, h, p.0, p.1.1.exact))
  answered-unique (best w) (best x) p q =
      let h : w ≤ tree_cost rows q.1.0 = p.1.1.least q.1.0 q.1.1.is_deriving in
      let k : x ≤ tree_cost rows p.1.0 = q.1.1.least p.1.0 p.1.1.is_deriving in
      let e : w ≡ x = omega (arith, h, k, p.1.1.exact, q.1.1.exact) in
      rw e refl
