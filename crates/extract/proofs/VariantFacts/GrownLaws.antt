-- A row with a cost heads a deriving term of just that cost after saturation, none that it heads is cheaper, and a row
-- that heads one has a cost. Assumes nothing.
use mathlib.Core.Path.{◌≡◌, refl, ap, sym, subst, ◌∙◌}
use mathlib.Core.Bool.{true, false}
use mathlib.Core.List.{List, [], ◌∷◌}
use Prim.Native.Nat.{ℕ, suc, ◌+◌, ◌<◌, ◌≤◌, min}
use native.Mathlib.Omega.{arith}
use borrow.Author.Tests.{ltb-true, ltb-false, lt-ltb, le-ltb, eq-eqb, eqb-true}
use lib.Dec.{eqb, ltb}
use lib.ListN.{length, get_or}
use Rattle.order.proofs.OrderLaws.{cases}
use Rattle.term_rules.proofs.TestLaws.{and_first, and_second}
use Rattle.choice_rules.specs.Rows.{Child, literal, class, Row, row_at, sum_of}
use Rattle.choice_rules.specs.Deriving.{
  Tree,
  leaf,
  node,
  Forest,
  none,
  more,
  Derives,
  DeriveAll,
  tree_cost,
  forest_cost,
}
use Rattle.choice_rules.specs.Run.{child_cost, priced, row_priced, row_cost}
use Rattle.choice_rules.specs.Answer.{Answer, no_term, too_dear, best, answer_of}
use Rattle.choice_rules.proofs.ListLaws.{Each, all-each, each_all}
use Rattle.choice_rules.specs.Demand.Deriving.{AllUsable, AllUsableIn, Deriving, Answered}
use Rattle.choice_rules.proofs.Demand.OrderLaws.{in_order-length}
use Rattle.file_rules.specs.Table.{Table}
use Rattle.table_rules.specs.Rules.Rows.{table_rows, usable}
use Rattle.table_rules.specs.Rules.Choosing.{limit, answer_for, Prices}
use Rattle.table_rules.specs.Rules.Prices.{TruePrices}
use Rattle.table_rules.specs.Rules.Facts.{Known}
use Rattle.answer_rules.specs.Plan.{order_for, cost_of}
use Rattle.answer_rules.specs.Variants.{file_row, cost_for, is_variant, rows_for}
use Rattle.extract.specs.First.{RowCost}
use Rattle.extract.proofs.VariantFacts.RowLaws.{row_is}

-- Sums after saturation.
sums-saturate :
    (M a b x y : ℕ) → min M a ≡ min M x → min M b ≡ min M y → min M (a + b) ≡ min M (x + y)
sums-saturate M a b x y p q = omega arith

sums-least : (M a b x y : ℕ) → min M a ≤ x → min M b ≤ y → min M (a + b) ≤ x + y
sums-least M a b x y p q = omega arith

-- A tree for a child, at a cost that is w after saturation, and none is cheaper.
pub record Grown (t : Table) (k : Child) (w : ℕ) : Type 0 where
  pub tree : Tree
  pub derives : Derives (table_rows t) tree k
  pub all_usable : AllUsable (usable t) tree
  pub saturated : min limit (tree_cost (table_rows t) tree) ≡ min limit w
  pub least :
      (u : Tree) → Derives (table_rows t) u k → AllUsable (usable t) u → min limit w ≤ tree_cost (table_rows t) u

-- The same of children.
pub record GrownAll (t : Table) (ks : List Child) (w : ℕ) : Type 0 where
  pub forest : Forest
  pub derives : DeriveAll (table_rows t) forest ks
  pub all_usable : AllUsableIn (usable t) forest
  pub saturated : min limit (forest_cost (table_rows t) forest) ≡ min limit w
  pub least :
      (f : Forest) →
      DeriveAll (table_rows t) f ks →
      AllUsableIn (usable t) f →
      min limit w ≤ forest_cost (table_rows t) f

module _ (t : Table) where
  literal-grown : (i : ℕ) → Grown t (literal i) 1
  unfolding Derives AllUsable tree_cost
  literal-grown i =
      record { tree = leaf i; derives = refl; all_usable = tt; saturated = refl; least = least }
    where
      least :
          (u : Tree) →
          Derives (table_rows t) u (literal i) →
          AllUsable (usable t) u →
          min limit 1 ≤ tree_cost (table_rows t) u
      least (leaf j) d a = omega arith
      least (node j f) d a = absurd d

  none-grown : GrownAll t [] 0
  unfolding DeriveAll AllUsableIn forest_cost
  none-grown =
      record { forest = none; derives = tt; all_usable = tt; saturated = refl; least = λ f d a. omega arith }

  more-grown :
      (k : Child) (ks : List Child) (w v : ℕ) → Grown t k w → GrownAll t ks v → GrownAll t (k ∷ ks) (w + v)
  unfolding DeriveAll AllUsableIn forest_cost
  more-grown k ks w v g gs = record {
    forest = more g.tree gs.forest;
    derives = (g.derives, gs.derives);
    all_usable = (g.all_usable, gs.all_usable);
    saturated =
        sums-saturate limit (tree_cost (table_rows t) g.tree) (forest_cost (table_rows t) gs.forest) w v
        g.saturated gs.saturated;
    least = least;
  }
    where
      least :
          (f : Forest) →
          DeriveAll (table_rows t) f (k ∷ ks) →
          AllUsableIn (usable t) f →
          min limit (w + v) ≤ forest_cost (table_rows t) f
      least none d a = absurd d
      least (more u f) d a =
          sums-least limit w v (tree_cost (table_rows t) u) (forest_cost (table_rows t) f) (g.least u d.0 a.0)
          (gs.least f d.1 a.1)

-- What the run says of a class that has a cost, and of one that has none.
module _ (t : Table) (ps : Prices) (d : ℕ) where
  pub answer-best :
      ltb 0 (order_for ps d) ≡ true → cost_of ps d < limit → answer_for ps d ≡ best (cost_of ps d)
  unfolding answer_for answer_of
  answer-best p l = rw (p, lt-ltb (cost_of ps d) limit l)

  answer-dear : ltb 0 (order_for ps d) ≡ true → limit ≤ cost_of ps d → answer_for ps d ≡ too_dear
  unfolding answer_for answer_of
  answer-dear p l = rw (p, le-ltb (cost_of ps d) limit l)

  answer-none : ltb 0 (order_for ps d) ≡ false → answer_for ps d ≡ no_term
  unfolding answer_for answer_of
  answer-none p = rw p

module _ (t : Table) (known : Known t) (In : ℕ → Type 0) (ps : Prices) (tp : TruePrices t In ps) where
  module _ (d : ℕ) (r : In d) where
    verdict : (a : Answer) → answer_for ps d ≡ a → Answered limit (table_rows t) (usable t) d a
    verdict a e =
        subst (λ (x : Answer). Answered limit (table_rows t) (usable t) d x) e
        (tp.right d r)

    class-grown : ltb 0 (order_for ps d) ≡ true → Grown t (class d) (cost_of ps d)
    class-grown p =
        cases (ltb (cost_of ps d) limit)
        (λ q.
        let l : cost_of ps d < limit = ltb-true (cost_of ps d) limit q in
        let v = (verdict (best (cost_of ps d)) (answer-best t ps d p l)).1 in
        record {
          tree = v.0;
          derives = v.1.is_deriving.derives;
          all_usable = v.1.is_deriving.all_usable;
          saturated = ap (min limit) v.1.exact;
          least = λ u e a. omega (arith, v.1.least u (record { derives = e; all_usable = a }));
        })
        (λ q.
        let l : limit ≤ cost_of ps d = ltb-false (cost_of ps d) limit q in
        let v = verdict too_dear (answer-dear t ps d p l) in
        let b : limit ≤ tree_cost (table_rows t) v.0.0 = v.1 v.0.0 v.0.1 in
        record {
          tree = v.0.0;
          derives = v.0.1.derives;
          all_usable = v.0.1.all_usable;
          saturated = omega arith;
          least = λ u e a. omega (arith, v.1 u (record { derives = e; all_usable = a }));
        })

    -- a class that something derives has a cost
    class-priced :
        (u : Tree) →
        Derives (table_rows t) u (class d) →
        AllUsable (usable t) u →
        ltb 0 (order_for ps d) ≡ true
    class-priced u e a =
        cases (ltb 0 (order_for ps d)) (λ p. p)
        (λ p. absurd (verdict no_term (answer-none t ps d p) u (record { derives = e; all_usable = a })))

  -- a child whose class, if it is one, the root sort reaches
  abbrev pub Near : Child → Type 0
  Near k = (d : ℕ) → k ≡ class d → In d

  child-grown :
      (k : Child) →
      Near k →
      priced ps.orders k ≡ true →
      Grown t k (child_cost ps.costs k)
  unfolding priced child_cost
  child-grown (literal i) n p = literal-grown t i
  child-grown (class d) n p = class-grown d (n d refl) p

  child-priced :
      (k : Child) →
      Near k →
      (u : Tree) →
      Derives (table_rows t) u k →
      AllUsable (usable t) u →
      priced ps.orders k ≡ true
  unfolding priced
  child-priced (literal i) n u e a = refl
  child-priced (class d) n u e a = class-priced d (n d refl) u e a

  children-grown :
      (ks : List Child) →
      Each Near ks →
      Each (λ (k : Child). priced ps.orders k ≡ true) ks →
      GrownAll t ks (sum_of (child_cost ps.costs) ks)
  unfolding sum_of
  children-grown [] n p = none-grown t
  children-grown (k ∷ ks) n p =
      more-grown t k ks (child_cost ps.costs k)
      (sum_of (child_cost ps.costs) ks) (child-grown k n.0 p.0)
      (children-grown ks n.1 p.1)

  children-priced :
      (ks : List Child) →
      Each Near ks →
      (f : Forest) →
      DeriveAll (table_rows t) f ks →
      AllUsableIn (usable t) f →
      Each (λ (k : Child). priced ps.orders k ≡ true) ks
  unfolding DeriveAll AllUsableIn
  children-priced [] n f e a = tt
  children-priced (k ∷ ks) n none e a = absurd e
  children-priced (k ∷ ks) n (more u f) e a =
      (child-priced k n.0 u e.0 a.0, children-priced ks n.1 f e.1 a.1)

  near-all : (ks : List Child) → ((j : ℕ) → j < length ks → Near (get_or ks j (literal 0))) → Each Near ks
  near-all [] f = tt
  near-all (k ∷ ks) f = (f 0 (omega arith), near-all ks (λ j l. f (suc j) (omega arith)))

  module _ (c : ℕ) (r : In c) where
    -- the children of a usable row of the class
    row_near :
        (q : ℕ) →
        q < length (table_rows t) →
        usable t q ≡ true →
        (row_at (table_rows t) q).output ≡ c →
        Each Near (row_at (table_rows t) q).children
    row_near q l u e =
        near-all (row_at (table_rows t) q).children
        (λ j m d x.
        tp.covers.closed q l u (subst In (sym e) r) j m d x)

    -- row i of the scan order, of class c, with a cost
    module _ (i : ℕ) (place : i < length (rows_for t ps)) (v : is_variant t ps c i ≡ true) where
      in_order : i < length ps.order
      in_order = subst (λ (n : ℕ). i < n) (in_order-length (table_rows t) ps.order) place

      pub row-at : row_at (rows_for t ps) i ≡ row_at (table_rows t) (file_row ps i)
      row-at = row_is t known In ps tp i place

      pub row_below : file_row ps i < length (table_rows t)
      row_below = tp.covers.known i in_order

      pub row-usable : usable t (file_row ps i) ≡ true
      row-usable = tp.covers.usable_ones i in_order

      pub row_output : (row_at (table_rows t) (file_row ps i)).output ≡ c
      unfolding is_variant
      row_output =
          subst (λ (x : Row). x.output ≡ c) row-at
          (eqb-true (row_at (rows_for t ps) i).output c
          (and_first (eqb (row_at (rows_for t ps) i).output c)
          (row_priced ps.orders (row_at (rows_for t ps) i)) v))

      pub row-priced :
          Each (λ (k : Child). priced ps.orders k ≡ true)
          (row_at (table_rows t) (file_row ps i)).children
      unfolding is_variant
      row-priced =
          subst (λ (x : Row). Each (λ (k : Child). priced ps.orders k ≡ true) x.children) row-at
          (all-each (priced ps.orders) (row_at (rows_for t ps) i).children
          (and_second (eqb (row_at (rows_for t ps) i).output c)
          (row_priced ps.orders (row_at (rows_for t ps) i)) v))

      pub row-near-all : Each Near (row_at (table_rows t) (file_row ps i)).children
      row-near-all = row_near (file_row ps i) row_below row-usable row_output

      pub row-cost-is :
          cost_for t ps i
          ≡ min limit
          ((row_at (table_rows t) (file_row ps i)).head
          + sum_of (child_cost ps.costs) (row_at (table_rows t) (file_row ps i)).children)
      unfolding cost_for row_cost
      row-cost-is =
          ap (λ (x : Row). min limit (x.head + sum_of (child_cost ps.costs) x.children)) row-at

      pub row-cost : RowCost t c (file_row ps i) (cost_for t ps i)
      unfolding Derives AllUsable tree_cost
      row-cost =
          let q : ℕ = file_row ps i in
          let ks : List Child = (row_at (table_rows t) q).children in
          let w : ℕ = sum_of (child_cost ps.costs) ks in
          let g : GrownAll t ks w = children-grown ks row-near-all row-priced in
          record {
            children = g.forest;
            is_deriving = record {
              derives = (row_below, row_output, g.derives);
              all_usable = (row-usable, g.all_usable);
            };
            saturated =
                sums-saturate limit (row_at (table_rows t) q).head (forest_cost (table_rows t) g.forest)
                (row_at (table_rows t) q).head w refl g.saturated
                ∙ sym row-cost-is;
            least = λ f d.
                subst (λ (x : ℕ). x ≤ (row_at (table_rows t) q).head + forest_cost (table_rows t) f) (sym row-cost-is)
                (sums-least limit (row_at (table_rows t) q).head w (row_at (table_rows t) q).head
                (forest_cost (table_rows t) f) (omega arith) (g.least f d.derives.2 d.all_usable.1));
          }

    -- a row that heads a deriving term is one of the scan order with a cost
    pub record Found (q : ℕ) : Type 0 where
      pub place : ℕ
      pub inside : place < length (rows_for t ps)
      pub is-variant : is_variant t ps c place ≡ true
      pub row : file_row ps place ≡ q

    pub row-found : (q : ℕ) (f : Forest) → Deriving (table_rows t) (usable t) c (node q f) → Found q
    unfolding Derives AllUsable is_variant
    row-found q f d =
        let l : q < length (table_rows t) = d.derives.0 in
        let u : usable t q ≡ true = d.all_usable.0 in
        let e : (row_at (table_rows t) q).output ≡ c = d.derives.1 in
        let p = tp.covers.found q l u (subst In (sym e) r) in
        let i : ℕ = p.0 in
        let b : i < length (rows_for t ps) =
        subst (λ (n : ℕ). i < n) (sym (in_order-length (table_rows t) ps.order)) p.1.0 in
        let x : row_at (rows_for t ps) i ≡ row_at (table_rows t) q =
        row_is t known In ps tp i b ∙ ap (row_at (table_rows t)) p.1.1 in
        let o : eqb (row_at (rows_for t ps) i).output c ≡ true =
        eq-eqb (row_at (rows_for t ps) i).output c (ap (λ (y : Row). y.output) x ∙ e) in
        let m : row_priced ps.orders (row_at (rows_for t ps) i) ≡ true =
        subst (λ (y : Row). row_priced ps.orders y ≡ true) (sym x)
        (each_all (priced ps.orders) (row_at (table_rows t) q).children
        (children-priced (row_at (table_rows t) q).children (row_near q l u e) f d.derives.2 d.all_usable.1))
        in
        record { place = i; inside = b; is-variant = rw (o, m); row = p.1.1 }

-- A row has one cost.
pub row-cost-once : (t : Table) (c r w v : ℕ) → RowCost t c r w → RowCost t c r v → w ≡ v
row-cost-once t c r w v a b =
    omega (
      arith,
      a.saturated,
      b.saturated,
      a.least b.children b.is_deriving,
      b.least a.children a.is_deriving,
    )
