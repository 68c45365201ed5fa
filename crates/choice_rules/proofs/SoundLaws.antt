-- Every cost that a run stores is that of a tree, and at a fixpoint no tree is cheaper. Assumes nothing.
use mathlib.Core.Path.{◌≡◌, refl, ap}
use mathlib.Core.List.{List, [], ◌∷◌}
use Prim.Native.Nat.{ℕ, suc, ◌+◌, ◌≤◌, ◌<◌, min}
use native.Mathlib.Omega.{arith}
use native.Mathlib.Decide.{ℕ_discrete}
use lib.ListN.{length, get_or, set}
use lib.Seq.{get_or-set_same, get_or-set_other}
use Rattle.choice_rules.specs.Rows.{Child, literal, class, Row, row_at, Within, sum_of}
use Rattle.choice_rules.specs.Deriving.{Tree, leaf, node, Forest, none, more, Derives, DeriveAll, tree_cost, forest_cost}
use Rattle.choice_rules.specs.Run.{State, child_cost, row_cost, store}
use Rattle.choice_rules.proofs.ListLaws.{Has}
use Rattle.choice_rules.proofs.RelaxLaws.{Priced, AllPriced, Improves}
use Rattle.choice_rules.proofs.PassLaws.{Fixed, Sized}

pub min-add : (M a b x y : ℕ) → min M a ≡ min M x → min M b ≡ min M y → min M (a + b) ≡ min M (x + y)
min-add M a b x y p q = omega arith

-- a row of n classes has its output below n
pub has_within : (n : ℕ) (rows : List Row) → Within n rows → (r : Row) → Has rows r → r.output < n
has_within n rows w r m = omega (arith, w m.0 m.1, ap (λ (q : Row). q.output) m.2)

module _ (M : ℕ) (rows : List Row) where
  -- class c is derived, at a cost that saturates to v
  pub record Ground (c v : ℕ) : Type 0 where
    pub tree : Tree
    pub derives : Derives rows tree (class c)
    pub cost : min M (tree_cost rows tree) ≡ v

  abbrev pub Grounded : State → Type 0
  Grounded s = (c : ℕ) → 0 < get_or s.ranks c 0 → Ground c (get_or s.costs c 0)

  pub grounded-capped : (s : State) → Grounded s → (c : ℕ) → 0 < get_or s.ranks c 0 → get_or s.costs c 0 ≤ M
  grounded-capped s g c h = omega (arith, (g c h).cost)

  module _ (s : State) (g : Grounded s) where
    pub record Tended (k : Child) : Type 0 where
      pub tree : Tree
      pub derives : Derives rows tree k
      pub cost : min M (tree_cost rows tree) ≡ min M (child_cost s.costs k)

    tended : (k : Child) → Priced s.ranks k → Tended k
    unfolding Derives tree_cost child_cost
    tended (literal i) h = record { tree = leaf i; derives = refl; cost = refl }
    tended (class c) h =
        let t = g c h in record { tree = t.tree; derives = t.derives; cost = omega (arith, t.cost) }

    pub record Grove (ks : List Child) : Type 0 where
      pub forest : Forest
      pub derive-all : DeriveAll rows forest ks
      pub cost : min M (forest_cost rows forest) ≡ min M (sum_of (child_cost s.costs) ks)

    pub grove : (ks : List Child) → AllPriced s.ranks ks → Grove ks
    unfolding Derives tree_cost sum_of
    grove [] h = record { forest = none; derive-all = tt; cost = refl }
    grove (k ∷ ks) h =
        let t = tended k h.0 in
        let f = grove ks h.1 in
        record {
          forest = more t.tree f.forest;
          derive-all = (t.derives, f.derive-all);
          cost = min-add M (tree_cost rows t.tree) (forest_cost rows f.forest) (child_cost s.costs k)
              (sum_of (child_cost s.costs) ks) t.cost f.cost;
        }

    -- a row whose children are priced derives its class
    pub ground-row : (r : Row) → Has rows r → AllPriced s.ranks r.children
        → Ground r.output (row_cost M s.costs r)
    unfolding Derives tree_cost row_cost
    ground-row r m h =
        let f = grove r.children h in
        let o = ap (λ (q : Row). q.output) m.2 in
        let e = ap (λ (q : Row). q.head) m.2 in
        record {
          tree = node m.0 f.forest;
          derives = (m.1, o, rw m.2 f.derive-all);
          cost = rw e (min-add M r.head (forest_cost rows f.forest) r.head
              (sum_of (child_cost s.costs) r.children) refl f.cost);
        }

  pub grounded-keeps : (n : ℕ) → Within n rows → (s : State) (r : Row) → Has rows r → Improves M s r → Sized n s
      → Grounded s → Grounded (store M s r)
  grounded-keeps n w s r m i z g c h = go (ℕ_discrete c r.output)
    where
      inside : r.output < length s.costs
      inside = omega (arith, has_within n rows w r m, z.costs)

      go : Dec (c ≡ r.output) → Ground c (get_or (set s.costs r.output (row_cost M s.costs r)) c 0)
      go (yes e) = rw (e, get_or-set_same s.costs r.output (row_cost M s.costs r) 0 inside)
          (ground-row s g r m i.all-priced)
      go (no d) =
          rw (get_or-set_other s.costs r.output c (row_cost M s.costs r) 0 d)
          (g c (rw (get_or-set_other s.ranks r.output c (suc s.last) 0 d) at h))

  -- at a fixpoint a class that is derived has a cost, and no tree is cheaper
  module _ (s : State) (fixed : Fixed M rows s) where
    mutual
      unfolding Derives tree_cost child_cost sum_of row_cost

      pub least : (t : Tree) (k : Child) → Derives rows t k
          → Priced s.ranks k × (child_cost s.costs k ≤ tree_cost rows t)
      least (leaf i) (literal j) d = (tt, omega arith)
      least (leaf i) (class c) d = absurd d
      least (node i f) (literal j) d = absurd d
      least (node i f) (class c) d =
          let a = least-all f (row_at rows i).children d.2 in
          let q = fixed (row_at rows i) (i, d.0, refl) a.0 in
          rw (← d.1) (q.0, omega arith)

      pub least-all : (f : Forest) (ks : List Child) → DeriveAll rows f ks
          → AllPriced s.ranks ks × (sum_of (child_cost s.costs) ks ≤ forest_cost rows f)
      least-all none [] d = (tt, omega arith)
      least-all none (k ∷ ks) d = absurd d
      least-all (more t f) [] d = absurd d
      least-all (more t f) (k ∷ ks) d =
          let a = least t k d.0 in
          let b = least-all f ks d.1 in
          ((a.0, b.0), omega arith)

    pub least-class : (c : ℕ) (t : Tree) → Derives rows t (class c)
        → (0 < get_or s.ranks c 0) × (get_or s.costs c 0 ≤ tree_cost rows t)
    unfolding child_cost
    least-class c t d = least t (class c) d
