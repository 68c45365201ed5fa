-- One addition, seen from a store that holds what is to be added: there is room for it, and the store that comes of it
-- is still within that one. Assumes nothing.
use Prim.Native.Nat.{ℕ, ◌<◌}
use mathlib.Core.Path.{◌≡◌, refl, sym, ap, subst, ◌∙◌}
use mathlib.Core.Bool.{Bool, true, false}
use mathlib.Core.List.{List, [], ◌∷◌}
use mathlib.Core.Logic.{◌⊎◌, inl, inr}
use native.Mathlib.Omega.{arith}
use lib.Dec.{ltb}
use borrow.Author.Tests.{ltb-true, ltb-false, lt-ltb}
use Rattle.name.specs.Name.{same}
use Rattle.name.specs.Entries.{name_at}
use Rattle.std.specs.Prelude.{Option, Some, None}
use Rattle.term_rules.specs.Lent.{Store, symbol_at, term_room, symbol_room}
use Rattle.term_rules.specs.WellFormed.{well_formed}
use Rattle.term_rules.specs.Facts.{Sound}
use Rattle.term_rules.specs.Nodes.{
  Node,
  literal,
  variable,
  application,
  node_at,
  same_node,
  Tree,
  named,
  applied,
  Trees,
  none,
  more,
  Means,
  is_number,
  is_named,
  is_applied,
  MeansAll,
  is_none,
  is_more,
}
use Rattle.term_rules.specs.Adding.{find_term, find_symbol, append, room_for_name, room_for, Adds, at, no_room, add}
use Rattle.term_rules.proofs.TestLaws.{cases, no_both, and_both}
use Rattle.term_rules.proofs.SameLaws.{same-tells, same_node-tells, tells-apart}
use Rattle.term_rules.proofs.SearchLaws.{first-missing, find_name-first, found-cases}
use Rattle.term_rules.proofs.FactsLaws.{sound-of-well_formed}
use Rattle.term_rules.specs.Growing.{Grows, Fit, Takes, Gives}
use Rattle.term_rules.proofs.Adding.AddingLaws.{add-gives}
use Rattle.term_rules.proofs.Adding.NodeLaws.{means-kept}
use Rattle.term_rules.specs.Trees.{tree_at}
use Rattle.term_rules.proofs.Meaning.MeansLaws.{Below, below-head, below-tail, says_all, means-one}
use Rattle.term_rules.proofs.Meaning.TreeLaws.{tree_at-means}
use Rattle.answer_rules.specs.Room.{Holds, Fits}
use Rattle.answer_rules.proofs.Room.HoldLaws.{
  HasName,
  name-held,
  NodeTree,
  node-of-tree,
  fewer-terms,
  fewer-names,
  terms-within,
  names-within,
}
use Rattle.answer_rules.proofs.Room.AppendLaws.{NameOf, Appended, append-leaves, same-term-room, same-symbol-room}

-- every term and name of the first store is in the second, whatever its number, and their rooms are the same
pub record Within (s s' : Store) : Type 0 where
  pub terms : (i : ℕ) → i < s.terms → Holds s' (tree_at s i)
  pub names : (k : ℕ) → k < s.symbols → HasName s' (symbol_at s k)
  pub same_term_room : term_room s' ≡ term_room s
  pub same_name_room : symbol_room s' ≡ symbol_room s

pub within-of-fits : (s s' : Store) → well_formed s ≡ true → Fits s s' → Within s s'
within-of-fits s s' f g =
    let w : Sound s = sound-of-well_formed s f in
    record {
      terms = λ i l. record {
        place = i;
        below = omega (arith, g.more, l);
        means = means-kept s w s' g.nodes l (tree_at-means s w i l);
      };
      names = λ k l. record { place = k; below = omega (arith, g.more_names, l); is = g.names k l };
      same_term_room = g.same_term_room;
      same_name_room = g.same_name_room;
    }

pub fits-self : (s : Store) → well_formed s ≡ true → Fits s s
fits-self s f = record {
  formed = f;
  more = omega arith;
  nodes = λ i l. refl;
  more_names = omega arith;
  names = λ k l. refl;
  same_term_room = refl;
  same_name_room = refl;
}

pub fits-trans : (a b c : Store) → Fits a b → Fits b c → Fits a c
fits-trans a b c f g = record {
  formed = g.formed;
  more = omega (arith, f.more, g.more);
  nodes = λ i l. g.nodes i (omega (arith, f.more)) ∙ f.nodes i l;
  more_names = omega (arith, f.more_names, g.more_names);
  names = λ k l. g.names k (omega (arith, f.more_names)) ∙ f.names k l;
  same_term_room = g.same_term_room ∙ f.same_term_room;
  same_name_room = g.same_name_room ∙ f.same_name_room;
}

-- what an addition leaves: G of the store, or Bad where there was no room
abbrev pub GoodAdd : (Store → Type 0) → Type 0 → Adds → Type 0
GoodAdd G Bad (at i s) = G s
GoodAdd G Bad no_room = Bad

-- by what adding meets
module _ (P : Adds → Type 0) (s : Store) (node : Node) where
  room-cases :
      (find_term s node ≡ None → room_for s node ≡ true → P (at s.terms (append s node))) →
      (find_term s node ≡ None → room_for s node ≡ false → P no_room) →
      find_term s node ≡ None →
      (b : Bool) →
      room_for s node ≡ b →
      P (elim b as (λ _. Adds) [ true ↦ at s.terms (append s node) | false ↦ no_room ])
  room-cases f g m true e = f m e
  room-cases f g m false e = g m e

  pub add-cases :
      ((i : ℕ) → P (at i s)) →
      (find_term s node ≡ None → room_for s node ≡ true → P (at s.terms (append s node))) →
      (find_term s node ≡ None → room_for s node ≡ false → P no_room) →
      P (add s node)
  unfolding add
  add-cases h f g = go (find_term s node) refl
    where
      go :
          (x : Option ℕ) →
          find_term s node ≡ x →
          P
          (elim x as (λ _. Adds) [
            | Some i ↦ at i s
            | None ↦ elim (room_for s node) [ true ↦ at s.terms (append s node) | false ↦ no_room ]
          ])
      go (Some i) e = h i
      go None e = room-cases f g e (room_for s node) refl

-- a store that fits after an addition
module _ (s : Store) (node : Node) (formed : well_formed s ≡ true) (fit : Fit s node) where
  pub appended-fits :
      room_for s node ≡ true → Takes s node s.terms (append s node) → Fits s (append s node)
  appended-fits r g =
      let a = append-leaves s (sound-of-well_formed s formed) node fit r in
      record {
        formed = g.grows.formed;
        more = g.grows.more;
        nodes = g.grows.nodes;
        more_names = a.renamed.more;
        names = a.renamed.old;
        same_term_room = same-term-room s (NameOf node) (append s node) a.renamed;
        same_name_room = same-symbol-room s (NameOf node) (append s node) a.renamed;
      }

  pub add-fits : GoodAdd (Fits s) Unit (add s node)
  add-fits =
      add-cases (λ (a : Adds). Gives s node a → GoodAdd (Fits s) Unit a) s node (λ i g. fits-self s formed)
      (λ m r g. appended-fits r g) (λ m r g. tt) (add-gives s node formed fit)

-- the node's tree, in a store that has grown
module _ (s s₂ : Store) (g : Grows s s₂) where
  all-grow : (ks : List ℕ) (ts : Trees) → Below s.terms ks → MeansAll s ks ts → MeansAll s₂ ks ts
  all-grow [] none b m = is_none
  all-grow [] (more t ts) b m = absurd (says_all s m)
  all-grow (k ∷ ks) none b m = absurd (says_all s m)
  all-grow (k ∷ ks) (more t ts) b m =
      let q = says_all s m in
      is_more (g.means k t (below-head s.terms k ks b) q.0)
      (all-grow ks ts (below-tail s.terms k ks b) q.1)

  pub node-means :
      (node : Node) (u : Tree) (i : ℕ) → Fit s node → NodeTree s node u → node_at s₂ i ≡ node → Means s₂ i u
  node-means (literal z) u i f e q = subst (Means s₂ i) (sym e) (is_number z q)
  node-means (variable n) u i f e q = subst (Means s₂ i) (sym e) (is_named n q)
  node-means (application n ks) u i f e q =
      subst (Means s₂ i) (sym e.2) (is_applied n ks e.0 q (all-grow ks e.0 f.2 e.1))

-- a store that holds the node's tree and all that the first has
module _
    (s s' : Store) (formed : well_formed s ≡ true) (formed' : well_formed s' ≡ true) (within : Within s s')
    (node : Node) (u : Tree) (fit : Fit s node) (tree : NodeTree s node u) (held : Holds s' u) where
  sound : Sound s
  sound = sound-of-well_formed s formed

  absent : find_term s node ≡ None → (i : ℕ) → i < s.terms → tree_at s i ≡ u → ⊥
  unfolding find_term
  absent m i l e =
      tells-apart same_node same_node-tells (node_at s i) node
      (first-missing (λ (j : ℕ). same_node (node_at s j) node) s.terms 0 m i (omega arith) (omega arith))
      (node-of-tree s sound node u fit tree i l (subst (Means s i) e (tree_at-means s sound i l)))

  term-room : find_term s node ≡ None → ltb s.terms (term_room s) ≡ true
  term-room m =
      let l : s.terms < s'.terms = fewer-terms s s' sound u within.terms held (absent m) in
      lt-ltb s.terms (term_room s) (omega (arith, l, terms-within s' formed', within.same_term_room))

  new-name : (n : List ℕ) → find_symbol s n ≡ None → (k : ℕ) → k < s.symbols → symbol_at s k ≡ n → ⊥
  new-name n m k l =
      tells-apart same same-tells (symbol_at s k) n
      (first-missing (λ (j : ℕ). same (name_at s.names j) n) s.symbols 0
      (sym (find_name-first s.names n s.symbols) ∙ m) k (omega arith) (omega arith))

  name-room : (n : List ℕ) → HasName s' n → room_for_name s n ≡ true
  unfolding room_for_name
  name-room n h =
      found-cases (find_symbol s n) (λ k e. rw (e, room_for_name) refl)
      (λ e.
      let l : s.symbols < s'.symbols = fewer-names s s' sound n within.names h (new-name n e) in
      rw (e, room_for_name)
      (lt-ltb s.symbols (symbol_room s) (omega (arith, l, names-within s' formed', within.same_name_room))))

  room_by :
      (x : Node) → NodeTree s x u → ltb s.terms (term_room s) ≡ true → room_for s x ≡ true
  unfolding room_for
  room_by (literal z) e r = r
  room_by (variable n) e r =
      and_both (ltb s.terms (term_room s)) (room_for_name s n) r
      (name-room n (name-held s' (sound-of-well_formed s' formed') (named n) (subst (Holds s') e held)))
  room_by (application n ks) e r =
      and_both (ltb s.terms (term_room s)) (room_for_name s n) r
      (name-room n (name-held s' (sound-of-well_formed s' formed') (applied n e.0) (subst (Holds s') e.2 held)))

  -- there is room for the node
  pub room-there : find_term s node ≡ None → room_for s node ≡ true
  room-there m = room_by node tree (term-room m)

  own_name : (x : Node) (m : List ℕ) → NodeTree s x u → NameOf x m → HasName s' m
  own_name (literal z) m e d = absurd d
  own_name (variable n) m e d =
      subst (HasName s') (sym d)
      (name-held s' (sound-of-well_formed s' formed') (named n) (subst (Holds s') e held))
  own_name (application n ks) m e d =
      subst (HasName s') (sym d)
      (name-held s' (sound-of-well_formed s' formed') (applied n e.0) (subst (Holds s') e.2 held))

  -- the store with the node is within the second
  module _ (s₂ : Store) (g : Takes s node s.terms s₂) (a : Appended s node s₂) where
    sound₂ : Sound s₂
    sound₂ = sound-of-well_formed s₂ g.grows.formed

    old-held : (i : ℕ) → i < s.terms → Holds s' (tree_at s₂ i)
    old-held i l =
        subst (Holds s')
        (means-one s₂ (tree_at s i) (tree_at s₂ i) i (g.grows.means i (tree_at s i) l (tree_at-means s sound i l))
        (tree_at-means s₂ sound₂ i (omega (arith, g.grows.more, l))))
        (within.terms i l)

    new-held : (i : ℕ) → i ≡ s.terms → Holds s' (tree_at s₂ i)
    new-held i e =
        subst (Holds s')
        (means-one s₂ u (tree_at s₂ i) i
        (node-means s s₂ g.grows node u i fit tree (ap (node_at s₂) e ∙ g.is))
        (tree_at-means s₂ sound₂ i (omega (arith, e, g.below))))
        held

    name_by : (k : ℕ) → (k < s.symbols) ⊎ NameOf node (symbol_at s₂ k) → HasName s' (symbol_at s₂ k)
    name_by k (inl l) = subst (HasName s') (sym (a.renamed.old k l)) (within.names k l)
    name_by k (inr d) = own_name node (symbol_at s₂ k) tree d

    appended-within : Within s₂ s'
    appended-within = record {
      terms = λ i l.
          cases (ltb i s.terms) (λ e. old-held i (ltb-true i s.terms e))
          (λ e. new-held i (omega (arith, ltb-false i s.terms e, l, a.count)));
      names = λ k l. name_by k (a.renamed.new k l);
      same_term_room = within.same_term_room ∙ sym (same-term-room s (NameOf node) s₂ a.renamed);
      same_name_room = within.same_name_room ∙ sym (same-symbol-room s (NameOf node) s₂ a.renamed);
    }

  -- the node goes in, and the store stays within the second
  pub add-within : GoodAdd (λ (b : Store). Within b s') ⊥ (add s node)
  add-within =
      add-cases (λ (a : Adds). Gives s node a → GoodAdd (λ (b : Store). Within b s') ⊥ a) s node (λ i g. within)
      (λ m r g. appended-within (append s node) g (append-leaves s sound node fit r))
      (λ m r g. no_both (room_for s node) (room-there m) r) (add-gives s node formed fit)
