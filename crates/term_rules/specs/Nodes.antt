-- What a term record means: document 01, 'Terms'. Assumes nothing: these are definitions.
use Rattle.std.specs.Prelude.{ℕ, zero, suc, ◌+◌, ◌-◌, ◌≡◌, Bool, true, false, ◌&&◌, List, [], ◌∷◌, ◌++◌, length, take, replicate, ℤ, pos}
use Rattle.name.specs.Name.{same}
use Rattle.term_rules.specs.declared.Term.{Term}
use Rattle.term_rules.specs.Lent.{Store, by_kind, record_at, symbol_at}
use Rattle.term_rules.specs.WellFormed.{same_int}

-- "A term is a literal, a variable or an application": a variable has a name, an application a name and child numbers
pub data Node : Type 0 where
  literal : ℤ → Node
  variable : List ℕ → Node
  application : List ℕ → List ℕ → Node

-- what a record says, by its kind (no well-formed store has a fourth kind)
unfoldable pub node_of : Store → Term → Node
node_of s t =
    by_kind t.kind (literal t.literal) (variable (symbol_at s t.symbol))
    (application (symbol_at s t.symbol) (take t.count t.children)) (literal t.literal)

-- term i
unfoldable pub node_at : Store → ℕ → Node
node_at s i = node_of s (record_at s i)

unfoldable pub same_node : Node → Node → Bool
same_node (literal y) (literal z) = same_int y z
same_node (literal y) (variable n) = false
same_node (literal y) (application n ks) = false
same_node (variable m) (literal z) = false
same_node (variable m) (variable n) = same m n
same_node (variable m) (application n ks) = false
same_node (application m js) (literal z) = false
same_node (application m js) (variable n) = false
same_node (application m js) (application n ks) = same m n && same js ks

-- the record of a node whose name has symbol number k
unfoldable pub record_of : ℕ → Node → Term
record_of k (literal z) = record { kind = 0; symbol = 0; count = 0; literal = z; children = replicate 8 0 }
record_of k (variable n) = record { kind = 1; symbol = k; count = 0; literal = pos 0; children = replicate 8 0 }
record_of k (application n ks) =
    record { kind = 2; symbol = k; count = length ks; literal = pos 0; children = ks ++ replicate (8 - length ks) 0 }

-- A term as a tree: what its number stands for, whatever the store.
mutual
  pub data Tree : Type 0 where
    number : ℤ → Tree
    named : List ℕ → Tree
    applied : List ℕ → Trees → Tree

  pub data Trees : Type 0 where
    none : Trees
    more : Tree → Trees → Trees

-- term i of the store stands for the tree
mutual
  pub data Means (s : Store) : ℕ → Tree → Type 0 where
    is_number : {i : ℕ} (z : ℤ) → node_at s i ≡ literal z → Means s i (number z)
    is_named : {i : ℕ} (n : List ℕ) → node_at s i ≡ variable n → Means s i (named n)
    is_applied :
        {i : ℕ} (n ks : List ℕ) (ts : Trees) →
        node_at s i ≡ application n ks →
        MeansAll s ks ts →
        Means s i (applied n ts)

  -- the terms ks stand for the trees, one for one
  pub data MeansAll (s : Store) : List ℕ → Trees → Type 0 where
    is_none : MeansAll s [] none
    is_more :
        {k : ℕ} {ks : List ℕ} {t : Tree} {ts : Trees} → Means s k t → MeansAll s ks ts → MeansAll s (k ∷ ks) (more t ts)
