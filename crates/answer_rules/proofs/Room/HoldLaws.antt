-- What a well-formed store holds: with a term its children too, and its name; and at most as many terms and names as
-- it has numbers. Assumes nothing.
use Prim.Native.Nat.{ℕ, ◌≤◌, ◌<◌}
use mathlib.Core.Path.{◌≡◌, refl, sym, ap, subst, ◌∙◌}
use mathlib.Core.Bool.{true}
use mathlib.Core.List.{List, [], ◌∷◌}
use native.Mathlib.Omega.{arith}
use lib.Dec.{leb}
use borrow.Author.Tests.{leb-true}
use Rattle.term_rules.specs.Lent.{Store, record_at, symbol_at, term_room, symbol_room}
use Rattle.term_rules.specs.WellFormed.{well_formed}
use Rattle.term_rules.specs.Facts.{SoundRecord, a_literal, a_variable, an_application, Sound}
use Rattle.term_rules.specs.Nodes.{
  Node,
  literal,
  variable,
  application,
  node_at,
  Tree,
  number,
  named,
  applied,
  Trees,
  none,
  more,
  Means,
  MeansAll,
}
use Rattle.term_rules.proofs.TestLaws.{and_first, and_second}
use Rattle.term_rules.specs.Growing.{Fit}
use Rattle.term_rules.specs.Trees.{tree_at}
use Rattle.term_rules.proofs.Meaning.NodeLaws.{
  node_of-literal,
  node_of-variable,
  node_of-application,
  literal-variable,
  literal-application,
  variable-application,
  variable-same,
  name-same,
  node-lower,
}
use Rattle.term_rules.proofs.Meaning.MeansLaws.{Below, below-head, below-tail, says, says_all, means-once, means-one}
use Rattle.term_rules.proofs.Meaning.TreeLaws.{tree_at-once}
use Rattle.answer_rules.specs.Room.{Holds}
use Rattle.answer_rules.proofs.Room.CountLaws.{one_more}

-- it holds of every tree
abbrev pub AllTrees : (Tree → Type 0) → Trees → Type 0
AllTrees P none = Unit
AllTrees P (more t ts) = P t × AllTrees P ts

-- a symbol has the name
pub record HasName (s : Store) (n : List ℕ) : Type 0 where
  pub place : ℕ
  pub below : place < s.symbols
  pub is : symbol_at s place ≡ n

-- the tree's own name, if it has one, is among the names
abbrev pub Names : Store → Tree → Type 0
Names s (number z) = Unit
Names s (named n) = HasName s n
Names s (applied n ts) = HasName s n

module _ (s : Store) (w : Sound s) where
  all_held : (ks : List ℕ) (ts : Trees) → Below s.terms ks → MeansAll s ks ts → AllTrees (Holds s) ts
  all_held ks none b m = tt
  all_held [] (more t ts) b m = absurd (says_all s m)
  all_held (k ∷ ks) (more t ts) b m =
      let q = says_all s m in (
        record { place = k; below = below-head s.terms k ks b; means = q.0 },
        all_held ks ts (below-tail s.terms k ks b) q.1,
      )

  -- the children of a term that is held
  pub children-held : (n : List ℕ) (ts : Trees) → Holds s (applied n ts) → AllTrees (Holds s) ts
  children-held n ts h =
      let q = says s h.means in
      all_held q.0 ts
      (λ j l. omega (arith, h.below, node-lower s w h.place h.below n q.0 q.1 j l)) q.2

  -- the name of a node of the store
  module _ (i : ℕ) (h : i < s.terms) (n : List ℕ) where
    variable-by : node_at s i ≡ variable n → SoundRecord s.symbols i (record_at s i) → HasName s n
    unfolding node_at
    variable-by e (a_literal f) = literal-variable (sym (node_of-literal s (record_at s i) f.kind) ∙ e)
    variable-by e (a_variable f) = record {
      place = (record_at s i).symbol;
      below = f.symbol;
      is = variable-same (sym (node_of-variable s (record_at s i) f.kind) ∙ e);
    }
    variable-by e (an_application f) =
        variable-application (sym e ∙ node_of-application s (record_at s i) f.kind)

    application-by :
        (ks : List ℕ) → node_at s i ≡ application n ks → SoundRecord s.symbols i (record_at s i) → HasName s n
    unfolding node_at
    application-by ks e (a_literal f) = literal-application (sym (node_of-literal s (record_at s i) f.kind) ∙ e)
    application-by ks e (a_variable f) = variable-application (sym (node_of-variable s (record_at s i) f.kind) ∙ e)
    application-by ks e (an_application f) = record {
      place = (record_at s i).symbol;
      below = f.symbol;
      is = name-same (sym (node_of-application s (record_at s i) f.kind) ∙ e);
    }

  -- the name of a term that is held
  pub name-held : (u : Tree) → Holds s u → Names s u
  name-held (number z) h = tt
  name-held (named n) h =
      variable-by h.place h.below n (says s h.means) (w.term h.place h.below)
  name-held (applied n ts) h =
      let q = says s h.means in
      application-by h.place h.below n q.0 q.1 (w.term h.place h.below)

-- the tree of a node whose children stand in the store
abbrev pub NodeTree : Store → Node → Tree → Type 0
NodeTree s (literal z) u = u ≡ number z
NodeTree s (variable n) u = u ≡ named n
NodeTree s (application n ks) u = (ts : Trees) × MeansAll s ks ts × (u ≡ applied n ts)

module _ (s : Store) (w : Sound s) where
  numbers-same :
      (ts : Trees) (js ks : List ℕ) → Below s.terms js → Below s.terms ks →
      MeansAll s js ts → MeansAll s ks ts → js ≡ ks
  numbers-same none [] [] b c p q = refl
  numbers-same none [] (k ∷ ks) b c p q = absurd (says_all s q)
  numbers-same none (j ∷ js) ks b c p q = absurd (says_all s p)
  numbers-same (more t ts) [] ks b c p q = absurd (says_all s p)
  numbers-same (more t ts) (j ∷ js) [] b c p q = absurd (says_all s q)
  numbers-same (more t ts) (j ∷ js) (k ∷ ks) b c p q =
      let p' = says_all s p in
      let q' = says_all s q in
      let d : j ≡ k =
      means-once s w t j k (below-head s.terms j js b) (below-head s.terms k ks c) p'.0 q'.0 in
      let e : js ≡ ks =
      numbers-same ts js ks (below-tail s.terms j js b) (below-tail s.terms k ks c) p'.1 q'.1 in
      cc

  -- a term of the store that means the node's tree is the node
  pub node-of-tree :
      (node : Node) (u : Tree) → Fit s node → NodeTree s node u → (i : ℕ) → i < s.terms → Means s i u →
      node_at s i ≡ node
  node-of-tree (literal z) u f e i h m = says s (subst (Means s i) e m)
  node-of-tree (variable n) u f e i h m = says s (subst (Means s i) e m)
  node-of-tree (application n ks) u f e i h m =
      let q = says s (subst (Means s i) e.2 m) in
      let d : q.0 ≡ ks =
      numbers-same e.0 q.0 ks (λ j l. omega (arith, node-lower s w i h n q.0 q.1 j l)) f.2 q.2
      e.1 in
      q.1 ∙ ap (application n) d

-- a store with terms that the second holds, and one more that it holds, has fewer
pub fewer-terms :
    (s s' : Store) → Sound s → (u : Tree) →
    ((i : ℕ) → i < s.terms → Holds s' (tree_at s i)) → Holds s' u →
    ((i : ℕ) → i < s.terms → tree_at s i ≡ u → ⊥) →
    s.terms < s'.terms
fewer-terms s s' w u f h new =
    one_more (λ (j : ℕ) (t : Tree). Means s' j t) (λ j a b. means-one s' a b j) s'.terms s.terms (tree_at s) u
    (tree_at-once s w) new
    (λ i l. ((f i l).place, (f i l).below, (f i l).means)) (h.place, h.below, h.means)

-- the same of names
pub fewer-names :
    (s s' : Store) → Sound s → (n : List ℕ) →
    ((k : ℕ) → k < s.symbols → HasName s' (symbol_at s k)) → HasName s' n →
    ((k : ℕ) → k < s.symbols → symbol_at s k ≡ n → ⊥) →
    s.symbols < s'.symbols
fewer-names s s' w n f h new =
    one_more (λ (j : ℕ) (m : List ℕ). symbol_at s' j ≡ m) (λ j a b p q. sym p ∙ q) s'.symbols s.symbols
    (λ (k : ℕ). symbol_at s k) n w.name_once new
    (λ k l. ((f k l).place, (f k l).below, (f k l).is)) (h.place, h.below, h.is)

-- the counts of a well-formed store are within its room
pub terms-within : (s : Store) → well_formed s ≡ true → s.terms ≤ term_room s
unfolding well_formed
terms-within s f = leb-true s.terms (term_room s) (and_first (leb s.terms (term_room s)) _ f)

pub names-within : (s : Store) → well_formed s ≡ true → s.symbols ≤ symbol_room s
unfolding well_formed
names-within s f =
    leb-true s.symbols (symbol_room s)
    (and_first (leb s.symbols (symbol_room s)) _ (and_second (leb s.terms (term_room s)) _ f))
