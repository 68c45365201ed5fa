-- Trees over rows in an order are trees over all rows, and back, at the same cost. Assumes nothing.
use mathlib.Core.Path.{◌≡◌, refl, ap, sym, ◌∙◌, subst}
use mathlib.Core.Bool.{Bool, true}
use mathlib.Core.List.{List, [], ◌∷◌, map}
use Prim.Native.Nat.{ℕ, zero, suc, ◌+◌, ◌<◌}
use native.Mathlib.Omega.{arith}
use lib.ListN.{length, get_or}
use Rattle.choice_rules.specs.Rows.{Child, literal, class, Row, no_row, row_at}
use Rattle.choice_rules.specs.Deriving.{
  Tree,
  leaf,
  node,
  Forest,
  none,
  more,
  Derives,
  DeriveAll,
  tree_cost,
  forest_cost,
}
use Rattle.choice_rules.specs.Demand.Deriving.{AllUsable, AllUsableIn}
use Rattle.choice_rules.specs.Demand.Orders.{in_order, renumber, renumber_in, Covers}

pub map-length : {A B : Type 0} (f : A → B) (xs : List A) → length (map f xs) ≡ length xs
map-length f [] = refl
map-length f (x ∷ xs) = ap suc (map-length f xs)

pub map_get : {A B : Type 0} (f : A → B) (xs : List A) (i : ℕ) (a : A) (b : B) → i < length xs
    → get_or (map f xs) i b ≡ f (get_or xs i a)
map_get f [] i a b h = absurd (omega arith)
map_get f (x ∷ xs) zero a b h = refl
map_get f (x ∷ xs) (suc i) a b h = map_get f xs i a b (omega arith)

pub in_order-length : (rows : List Row) (order : List ℕ) → length (in_order rows order) ≡ length order
unfolding in_order
in_order-length rows order = map-length (row_at rows) order

pub in_order-get : (rows : List Row) (order : List ℕ) (i : ℕ) → i < length order
    → row_at (in_order rows order) i ≡ row_at rows (get_or order i 0)
unfolding in_order
in_order-get rows order i h = map_get (row_at rows) order i 0 no_row h

module _ (rows : List Row) (order : List ℕ) where
  -- the row of a node over the order
  at : (i : ℕ) → i < length (in_order rows order) → row_at (in_order rows order) i ≡ row_at rows (get_or order i 0)
  at i h = in_order-get rows order i (subst (λ (n : ℕ). i < n) (in_order-length rows order) h)

  mutual
    unfolding Derives DeriveAll renumber renumber_in

    -- a tree over the order, renumbered, derives the same over all rows
    pub renumber-derives :
        ((i : ℕ) → i < length order → get_or order i 0 < length rows) →
        (t : Tree) (k : Child) →
        Derives (in_order rows order) t k →
        Derives rows (renumber order t) k
    renumber-derives known (leaf i) (literal j) d = d
    renumber-derives known (leaf i) (class c) d = d
    renumber-derives known (node i f) (literal j) d = d
    renumber-derives known (node i f) (class c) d = (
      known i (subst (λ (n : ℕ). i < n) (in_order-length rows order) d.0),
      subst (λ (r : Row). r.output ≡ c) (at i d.0) d.1,
      renumber-derives-in known f (row_at rows (get_or order i 0)).children
          (subst (λ (r : Row). DeriveAll (in_order rows order) f r.children) (at i d.0) d.2),
    )

    pub renumber-derives-in :
        ((i : ℕ) → i < length order → get_or order i 0 < length rows) →
        (f : Forest) (ks : List Child) →
        DeriveAll (in_order rows order) f ks →
        DeriveAll rows (renumber_in order f) ks
    renumber-derives-in known none [] d = d
    renumber-derives-in known none (k ∷ ks) d = d
    renumber-derives-in known (more t f) [] d = d
    renumber-derives-in known (more t f) (k ∷ ks) d =
        (renumber-derives known t k d.0, renumber-derives-in known f ks d.1)

  mutual
    unfolding Derives DeriveAll renumber renumber_in AllUsable AllUsableIn

    -- and has usable rows alone, where the order has
    pub renumber-usable :
        (usable : ℕ → Bool) →
        ((i : ℕ) → i < length order → usable (get_or order i 0) ≡ true) →
        (t : Tree) (k : Child) →
        Derives (in_order rows order) t k →
        AllUsable usable (renumber order t)
    renumber-usable usable u (leaf i) k d = tt
    renumber-usable usable u (node i f) (literal j) d = absurd d
    renumber-usable usable u (node i f) (class c) d = (
      u i (subst (λ (n : ℕ). i < n) (in_order-length rows order) d.0),
      renumber-usable-in usable u f (row_at (in_order rows order) i).children d.2,
    )

    pub renumber-usable-in :
        (usable : ℕ → Bool) →
        ((i : ℕ) → i < length order → usable (get_or order i 0) ≡ true) →
        (f : Forest) (ks : List Child) →
        DeriveAll (in_order rows order) f ks →
        AllUsableIn usable (renumber_in order f)
    renumber-usable-in usable u none ks d = tt
    renumber-usable-in usable u (more t f) [] d = absurd d
    renumber-usable-in usable u (more t f) (k ∷ ks) d =
        (renumber-usable usable u t k d.0, renumber-usable-in usable u f ks d.1)

  mutual
    unfolding Derives DeriveAll renumber renumber_in tree_cost forest_cost

    -- at the same cost
    pub renumber-cost :
        (t : Tree) (k : Child) →
        Derives (in_order rows order) t k →
        tree_cost rows (renumber order t) ≡ tree_cost (in_order rows order) t
    renumber-cost (leaf i) k d = refl
    renumber-cost (node i f) (literal j) d = absurd d
    renumber-cost (node i f) (class c) d =
        ap (λ (n : ℕ). (row_at rows (get_or order i 0)).head + n)
        (renumber-cost-in f (row_at (in_order rows order) i).children d.2)
        ∙ ap (λ (r : Row). r.head + forest_cost (in_order rows order) f) (sym (at i d.0))

    pub renumber-cost-in :
        (f : Forest) (ks : List Child) →
        DeriveAll (in_order rows order) f ks →
        forest_cost rows (renumber_in order f) ≡ forest_cost (in_order rows order) f
    renumber-cost-in none ks d = refl
    renumber-cost-in (more t f) [] d = absurd d
    renumber-cost-in (more t f) (k ∷ ks) d =
        let a = renumber-cost t k d.0 in
        let b = renumber-cost-in f ks d.1 in
        rw (a, b) refl

-- a tree over the order, for a tree over all rows: the same child, at the same cost
pub record Ordered (rows : List Row) (order : List ℕ) (t : Tree) (k : Child) : Type 0 where
  pub tree : Tree
  pub derives : Derives (in_order rows order) tree k
  pub cost : tree_cost (in_order rows order) tree ≡ tree_cost rows t

pub record OrderedIn (rows : List Row) (order : List ℕ) (f : Forest) (ks : List Child) : Type 0 where
  pub forest : Forest
  pub derives : DeriveAll (in_order rows order) forest ks
  pub cost : forest_cost (in_order rows order) forest ≡ forest_cost rows f

-- every class among the children is in the set
abbrev pub InAll : (ℕ → Type 0) → List Child → Type 0
InAll In ks = (j : ℕ) → j < length ks → (d : ℕ) → get_or ks j (literal 0) ≡ class d → In d

module _ (rows : List Row) (usable : ℕ → Bool) (order : List ℕ) (In : ℕ → Type 0)
    (v : Covers rows usable order In) where
  mutual
    unfolding Derives DeriveAll AllUsable AllUsableIn tree_cost forest_cost

    pub ordered :
        (t : Tree) (k : Child) →
        ((d : ℕ) → k ≡ class d → In d) →
        Derives rows t k →
        AllUsable usable t →
        Ordered rows order t k
    ordered (leaf i) (literal j) m d u = record { tree = leaf i; derives = d; cost = refl }
    ordered (leaf i) (class c) m d u = absurd d
    ordered (node r f) (literal j) m d u = absurd d
    ordered (node r f) (class c) m d u =
        let inside : In (row_at rows r).output = subst In (sym d.1) (m c refl) in
        let p = v.found r d.0 u.0 inside in
        let kids = ordered-in f (row_at rows r).children (v.closed r d.0 u.0 inside) d.2 u.1 in
        let e : row_at (in_order rows order) p.0 ≡ row_at rows r =
        in_order-get rows order p.0 p.1.0 ∙ ap (row_at rows) p.1.1 in
        record {
          tree = node p.0 kids.forest;
          derives = (
            subst (λ (n : ℕ). p.0 < n) (sym (in_order-length rows order)) p.1.0,
            subst (λ (x : Row). x.output ≡ c) (sym e) d.1,
            subst (λ (x : Row). DeriveAll (in_order rows order) kids.forest x.children) (sym e) kids.derives,
          );
          cost =
              ap (λ (x : Row). x.head + forest_cost (in_order rows order) kids.forest) e
              ∙ ap (λ (n : ℕ). (row_at rows r).head + n) kids.cost;
        }

    pub ordered-in :
        (f : Forest) (ks : List Child) →
        InAll In ks →
        DeriveAll rows f ks →
        AllUsableIn usable f →
        OrderedIn rows order f ks
    ordered-in none [] m d u = record { forest = none; derives = tt; cost = refl }
    ordered-in none (k ∷ ks) m d u = absurd d
    ordered-in (more t f) [] m d u = absurd d
    ordered-in (more t f) (k ∷ ks) m d u =
        let a = ordered t k (λ e h. m 0 (omega arith) e h) d.0 u.0 in
        let b = ordered-in f ks (λ j h e q. m (suc j) (omega arith) e q) d.1 u.1 in
        record {
          forest = more a.tree b.forest;
          derives = (a.derives, b.derives);
          cost = rw (a.cost, b.cost) refl;
        }
