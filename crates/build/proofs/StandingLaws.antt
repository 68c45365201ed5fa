-- Laws on what stands in a store: it stays where the store grows. Assumes nothing.
use Prim.Native.Nat.{ℕ, zero, suc, ◌<◌}
use mathlib.Core.Path.{◌≡◌, refl, sym, ap, ◌∙◌}
use mathlib.Core.List.{List, [], ◌∷◌, ◌++◌}
use native.Mathlib.Omega.{arith}
use lib.ListN.{length, get_or}
use Rattle.term_rules.specs.Lent.{Store}
use Rattle.term_rules.specs.Nodes.{Tree, applied, Trees, none, more, MeansAll, is_none, is_more}
use Rattle.term_rules.specs.Growing.{Grows}
use Rattle.build.specs.Plan.{Child, Plan, TreeOf, of_row, ChildTree, of_class, of_value, TreesOf, of_none, of_more}
use Rattle.build.specs.Standing.{Stands}

pub stands-grows : {p : Plan} {s s' : Store} {x : Child} {t : ℕ} → Grows s s' → Stands p s x t → Stands p s' x t
stands-grows {t = t} g h = record {
  below = omega (arith, g.more, h.below);
  tree = h.tree;
  of = h.of;
  means = g.means t h.tree h.below h.means;
}

-- the children stand in the store as these terms, one for one
pub data StandAll (p : Plan) (s : Store) : List Child → List ℕ → Type 0 where
  none_stand : StandAll p s [] []
  more_stand : {x : Child} {xs : List Child} {k : ℕ} {ks : List ℕ} → Stands p s x k → StandAll p s xs ks → StandAll p s
      (x ∷ xs) (k ∷ ks)

pub stand_all-grows : {p : Plan} {s s' : Store} {xs : List Child} {ks : List ℕ} → Grows s s' → StandAll p s xs ks →
    StandAll p s' xs ks
stand_all-grows g none_stand = none_stand
stand_all-grows g (more_stand h hs) = more_stand (stands-grows g h) (stand_all-grows g hs)

pub stand_all-append :
    {p : Plan} {s : Store} {x : Child} {xs : List Child} {k : ℕ} {ks : List ℕ} →
    StandAll p s xs ks →
    Stands p s x k →
    StandAll p s (xs ++ (x ∷ [])) (ks ++ (k ∷ []))
stand_all-append none_stand h = more_stand h none_stand
stand_all-append (more_stand g gs) h = more_stand g (stand_all-append gs h)

pub stand_all-length : {p : Plan} {s : Store} {xs : List Child} {ks : List ℕ} → StandAll p s xs ks → length ks ≡ length
    xs
stand_all-length none_stand = refl
stand_all-length (more_stand h hs) = ap suc (stand_all-length hs)

pub stand_all-below :
    {p : Plan} {s : Store} {xs : List Child} {ks : List ℕ} →
    StandAll p s xs ks →
    (j : ℕ) →
    j < length ks →
    get_or ks j 0 < s.terms
stand_all-below none_stand j h = absurd (omega arith)
stand_all-below (more_stand g gs) zero h = g.below
stand_all-below (more_stand g gs) (suc j) h = stand_all-below gs j (omega arith)

-- their trees
pub record Wood (p : Plan) (s : Store) (xs : List Child) (ks : List ℕ) : Type 0 where
  pub trees : Trees
  pub of : TreesOf p xs trees
  pub means : MeansAll s ks trees

pub stand_all-trees : {p : Plan} {s : Store} {xs : List Child} {ks : List ℕ} → StandAll p s xs ks → Wood p s xs ks
stand_all-trees none_stand = record { trees = none; of = of_none; means = is_none }
stand_all-trees (more_stand h hs) =
    let w = stand_all-trees hs in
    record {
      trees = more h.tree w.trees;
      of = of_more h.of w.of;
      means = is_more h.means w.means;
    }

-- A class has at most one tree.
mutual
  pub tree_of-unique : {p : Plan} {c : ℕ} {t t' : Tree} → TreeOf p c t → TreeOf p c t' → t ≡ t'
  tree_of-unique (of_row e a) (of_row f b) =
      let g = trees_of-unique a b in
      let h = e ∙ sym f in
      λ i. applied (h i) (g i)

  pub child_tree-unique : {p : Plan} {x : Child} {t t' : Tree} → ChildTree p x t → ChildTree p x t' → t ≡ t'
  child_tree-unique (of_class a) (of_class b) = tree_of-unique a b
  child_tree-unique of_value of_value = refl

  pub trees_of-unique : {p : Plan} {xs : List Child} {ts ts' : Trees} → TreesOf p xs ts → TreesOf p xs ts' → ts ≡ ts'
  trees_of-unique of_none of_none = refl
  trees_of-unique (of_more a l) (of_more b m) =
      let e = child_tree-unique a b in
      let f = trees_of-unique l m in
      λ i. more (e i) (f i)
