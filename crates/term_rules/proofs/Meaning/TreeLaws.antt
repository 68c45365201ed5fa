-- The tree of a term number is what the number means. Assumes nothing.
use Prim.Native.Nat.{ℕ, zero, suc, ◌<◌}
use mathlib.Core.Path.{◌≡◌, refl}
use mathlib.Core.List.{List, [], ◌∷◌}
use native.Mathlib.Omega.{arith}
use Rattle.term_rules.specs.Lent.{Store}
use Rattle.term_rules.specs.Nodes.{
  Node,
  literal,
  variable,
  application,
  node_at,
  Tree,
  number,
  Trees,
  Means,
  is_number,
  is_named,
  is_applied,
  MeansAll,
  is_none,
  is_more,
}
use Rattle.term_rules.specs.Facts.{Sound}
use Rattle.term_rules.specs.Trees.{forest, tree_of, tree_in, tree_at}
use Rattle.term_rules.proofs.Meaning.NodeLaws.{node-lower}
use Rattle.term_rules.proofs.Meaning.MeansLaws.{Below, below-head, below-tail, means-one, means-once}

module _ (s : Store) (w : Sound s) where
  forest-means :
      (n : ℕ) (g : ℕ → Tree) (ks : List ℕ) →
      ((k : ℕ) → k < n → Means s k (g k)) →
      Below n ks →
      MeansAll s ks (forest g ks)
  unfolding forest
  forest-means n g [] f b = is_none
  forest-means n g (k ∷ ks) f b =
      is_more (f k (below-head n k ks b)) (forest-means n g ks f (below-tail n k ks b))

  node-means :
      (f i : ℕ) (node : Node) →
      i < s.terms →
      node_at s i ≡ node →
      ((k : ℕ) → k < i → Means s k (tree_in f s k)) →
      Means s i (tree_of (tree_in f s) node)
  unfolding tree_of
  node-means f i (literal z) h e r = is_number z e
  node-means f i (variable n) h e r = is_named n e
  node-means f i (application n ks) h e r =
      is_applied n ks (forest (tree_in f s) ks) e
      (forest-means i (tree_in f s) ks r (node-lower s w i h n ks e))

  pub tree_in-means : (f i : ℕ) → i < s.terms → i < f → Means s i (tree_in f s i)
  unfolding tree_in
  tree_in-means zero i h l = absurd (omega arith)
  tree_in-means (suc f) i h l =
      node-means f i (node_at s i) h refl (λ k b. tree_in-means f k (omega arith) (omega arith))

  -- every number of the store means its tree
  pub tree_at-means : (i : ℕ) → i < s.terms → Means s i (tree_at s i)
  unfolding tree_at
  tree_at-means i h = tree_in-means (suc i) i h (omega arith)

  -- the tree is the same at every depth that is enough
  pub tree_in-enough : (f i : ℕ) → i < s.terms → i < f → tree_in f s i ≡ tree_at s i
  tree_in-enough f i h l = means-one s (tree_in f s i) (tree_at s i) i (tree_in-means f i h l) (tree_at-means i h)

  -- equal trees have equal numbers
  pub tree_at-once : (i j : ℕ) → i < s.terms → j < s.terms → tree_at s i ≡ tree_at s j → i ≡ j
  tree_at-once i j h k e =
      means-once s w (tree_at s i) i j h k (tree_at-means i h) (rw e (tree_at-means j k))
