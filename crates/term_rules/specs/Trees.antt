-- The tree that a term number stands for. Assumes nothing: these are definitions.
use Rattle.std.specs.Prelude.{ℕ, zero, suc, List, [], ◌∷◌, pos}
use Rattle.term_rules.specs.Lent.{Store}
use Rattle.term_rules.specs.Nodes.{
  Node,
  literal,
  variable,
  application,
  node_at,
  Tree,
  number,
  named,
  applied,
  Trees,
  none,
  more,
}

-- the trees of a list of numbers
unfoldable pub forest : (ℕ → Tree) → List ℕ → Trees
forest g [] = none
forest g (k ∷ ks) = more (g k) (forest g ks)

-- what a node stands for, with the trees of its children
unfoldable pub tree_of : (ℕ → Tree) → Node → Tree
tree_of g (literal z) = number z
tree_of g (variable n) = named n
tree_of g (application n ks) = applied n (forest g ks)

-- the tree of term i, at most f deep
unfoldable pub tree_in : ℕ → Store → ℕ → Tree
tree_in zero s i = number (pos 0)
tree_in (suc f) s i = tree_of (tree_in f s) (node_at s i)

-- the tree of term i: "every child lower than its parent"
unfoldable pub tree_at : Store → ℕ → Tree
tree_at s i = tree_in (suc i) s i
