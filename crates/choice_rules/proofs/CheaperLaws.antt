-- Least costs compared: where every row of one list has a row in another that is no dearer, no class is dearer there.
-- So more rows never cost more, and raising a head cost never lowers a cost. Assumes nothing.
use mathlib.Core.Path.{◌≡◌, ap, ◌∙◌}
use mathlib.Core.List.{List, [], ◌∷◌, ◌++◌}
use Prim.Native.Nat.{ℕ, ◌≤◌, ◌<◌}
use native.Mathlib.Omega.{arith}
use lib.ListN.{length, length-append, get_or-append}
use Rattle.choice_rules.specs.Rows.{Child, literal, class, Row, row_at, no_row}
use Rattle.choice_rules.specs.Deriving.{Tree, leaf, node, Forest, none, more, Derives, DeriveAll, tree_cost}
use Rattle.choice_rules.specs.Deriving.{forest_cost, Least}
use Rattle.choice_rules.specs.Answer.{Best}

-- a row of the list with r's output and children, and a head cost no higher
pub record Matched (rows : List Row) (r : Row) : Type 0 where
  pub number : ℕ
  pub known : number < length rows
  pub output : (row_at rows number).output ≡ r.output
  pub children : (row_at rows number).children ≡ r.children
  pub head : (row_at rows number).head ≤ r.head

module _ (rows cheap : List Row) (match : (i : ℕ) → i < length rows → Matched cheap (row_at rows i)) where
  pub record Moved (t : Tree) (k : Child) : Type 0 where
    pub tree : Tree
    pub derives : Derives cheap tree k
    pub cost : tree_cost cheap tree ≤ tree_cost rows t

  pub record MovedAll (f : Forest) (ks : List Child) : Type 0 where
    pub forest : Forest
    pub derives : DeriveAll cheap forest ks
    pub cost : forest_cost cheap forest ≤ forest_cost rows f

  mutual
    unfolding Derives tree_cost

    pub moved : (t : Tree) (k : Child) → Derives rows t k → Moved t k
    moved (leaf i) (literal j) d = record { tree = leaf i; derives = d; cost = omega arith }
    moved (leaf i) (class c) d = absurd d
    moved (node i f) (literal j) d = absurd d
    moved (node i f) (class c) d =
        let m = match i d.0 in
        let g = moved_all f (row_at rows i).children d.2 in
        record {
          tree = node m.number g.forest;
          derives = (m.known, m.output ∙ d.1, rw m.children g.derives);
          cost = omega (arith, m.head, g.cost);
        }

    moved_all : (f : Forest) (ks : List Child) → DeriveAll rows f ks → MovedAll f ks
    moved_all none [] d = record { forest = none; derives = tt; cost = omega arith }
    moved_all none (k ∷ ks) d = absurd d
    moved_all (more t f) [] d = absurd d
    moved_all (more t f) (k ∷ ks) d =
        let a = moved t k d.0 in
        let b = moved_all f ks d.1 in
        record {
          forest = more a.tree b.forest;
          derives = (a.derives, b.derives);
          cost = omega (arith, a.cost, b.cost);
        }

  pub least-mono : (c v u : ℕ) → Least rows c v → Least cheap c u → u ≤ v
  least-mono c v u a b =
      let m = moved a.tree (class c) a.derives in
      omega (arith, b.least m.tree m.derives, m.cost, a.exact)

pub least-of-best : (rows : List Row) (c v : ℕ) (t : Tree) → Best rows c v t → Least rows c v
least-of-best rows c v t b = record { tree = t; derives = b.derives; exact = b.exact; least = b.least }

pub least-unique : (rows : List Row) (c v u : ℕ) → Least rows c v → Least rows c u → v ≡ u
least-unique rows c v u a b =
    omega (arith, a.least b.tree b.derives, b.least a.tree a.derives, a.exact, b.exact)

-- rows added at the end
pub least-append : (rows added : List Row) (c v u : ℕ) → Least rows c v → Least (rows ++ added) c u → u ≤ v
least-append rows added = least-mono rows (rows ++ added) match
  where
    match : (i : ℕ) → i < length rows → Matched (rows ++ added) (row_at rows i)
    match i l =
        let e : row_at (rows ++ added) i ≡ row_at rows i = get_or-append rows added no_row i l in
        record {
          number = i;
          known = omega (arith, length-append rows added);
          output = ap (λ (r : Row). r.output) e;
          children = ap (λ (r : Row). r.children) e;
          head = omega (arith, ap (λ (r : Row). r.head) e);
        }
