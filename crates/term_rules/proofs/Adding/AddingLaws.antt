-- What adding a node to a well-formed store gives: the node's number in a well-formed store that has all the terms of
-- the first, or that there is no room. Assumes nothing.
use Prim.Native.Nat.{ℕ, ◌+◌, ◌<◌}
use mathlib.Core.Path.{◌≡◌, refl, sym, ap, subst, ◌∙◌}
use mathlib.Core.Bool.{Bool, true, false}
use mathlib.Core.List.{List}
use native.Mathlib.Omega.{arith}
use lib.ListN.{length}
use lib.Dec.{ltb}
use Rattle.std.specs.Prelude.{Option, Some, None}
use Rattle.term_rules.specs.declared.Term.{Term}
use Rattle.term_rules.specs.Lent.{Store, record_in, record_at, term_room}
use Rattle.term_rules.specs.WellFormed.{well_formed}
use Rattle.term_rules.specs.Facts.{SoundRecord, Sound}
use Rattle.term_rules.specs.Nodes.{Node, literal, variable, application, node_of, node_at, same_node, record_of}
use Rattle.term_rules.specs.Adding.{find_term, with_name, with_record, symbol_for, append, room_for, Adds, at, no_room, add}
use Rattle.term_rules.proofs.TestLaws.{and_first, and_second}
use Rattle.term_rules.proofs.SameLaws.{same_node-tells, tells-apart}
use Rattle.term_rules.proofs.SearchLaws.{first-at, first-missing}
use Rattle.term_rules.proofs.FactsLaws.{sound-of-well_formed, well_formed-of-sound}
use Rattle.term_rules.specs.Growing.{Beyond, Grows, Fit, Takes, Gives}
use Rattle.term_rules.proofs.Adding.AppendLaws.{Room, room-of-terms, with_record-before, with_record-at, with_record-sound}
use Rattle.term_rules.proofs.Adding.WithNameLaws.{Named, with_name-named}
use Rattle.term_rules.proofs.Adding.NodeLaws.{
  node_of-same,
  Symbol,
  node_of-record_of,
  record_of-sound,
  literal-sound,
  record_of-wide,
  means-kept,
}
use Rattle.term_rules.proofs.Adding.BeyondLaws.{add-beyond}

pub grows-refl : (s : Store) → well_formed s ≡ true → Grows s s
grows-refl s f = record {
  formed = f;
  more = omega arith;
  nodes = λ i h. refl;
  means = λ i t h m. m;
  beyond = record { records = refl; literals = refl; names = refl };
}

pub grows-trans : {s s' s'' : Store} → Grows s s' → Grows s' s'' → Grows s s''
grows-trans g h = record {
  formed = h.formed;
  more = omega arith;
  nodes = λ i l. h.nodes i (omega (arith, g.more)) ∙ g.nodes i l;
  means = λ i t l m. h.means i t (omega (arith, g.more)) (g.means i t l m);
  beyond = record {
    records = h.beyond.records ∙ g.beyond.records;
    literals = h.beyond.literals ∙ g.beyond.literals;
    names = h.beyond.names ∙ g.beyond.names;
  };
}

module _ (s : Store) (node : Node) (sound : Sound s) (fit : Fit s node) (missing : find_term s node ≡ None) where
  -- no term of the store is the node
  absent : (i : ℕ) → i < s.terms → node_at s i ≡ node → ⊥
  unfolding find_term
  absent i l =
      tells-apart same_node same_node-tells (node_at s i) node
      (first-missing (λ (i : ℕ). same_node (node_at s i) node) s.terms 0 missing i (omega arith) (omega arith))

  -- the record of the node is appended to a store that has its name
  module _
      (s₁ : Store)
      (k : ℕ)
      (sound₁ : Sound s₁)
      (terms : s₁.terms ≡ s.terms)
      (old : (i : ℕ) → i < s.terms → node_at s₁ i ≡ node_at s i)
      (symbol : Symbol s₁ k node)
      (is : SoundRecord s₁.symbols s₁.terms (record_of k node))
      (room : Room s₁) where
    abbrev t : Term
    t = record_of k node

    node_at-record : (i : ℕ) (r : Term) → record_at s₁ i ≡ r → node_at s₁ i ≡ node_of s₁ r
    unfolding node_at
    node_at-record i r e = ap (node_of s₁) e

    fresh : (i : ℕ) → i < s₁.terms → record_at s₁ i ≡ t → ⊥
    fresh i l e =
        let h : i < s.terms = omega (arith, terms) in
        absent i h (sym (old i h) ∙ node_at-record i t e ∙ node_of-record_of s₁ k node symbol)

    sound' : Sound (with_record s₁ t)
    sound' = with_record-sound s₁ t room (record_of-wide s k node fit) sound₁ is fresh

    node_at-with : (i : ℕ) (r : Term) → record_at (with_record s₁ t) i ≡ r → node_at (with_record s₁ t) i ≡ node_of s₁ r
    unfolding node_at node_of with_record
    node_at-with i r e = ap (node_of s₁) e

    nodes' : (i : ℕ) → i < s.terms → node_at (with_record s₁ t) i ≡ node_at s i
    nodes' i l =
        let h : i < s₁.terms = omega (arith, terms) in
        node_at-with i (record_at s₁ i) (with_record-before s₁ t room (record_of-wide s k node fit) i h)
        ∙ sym (node_at-record i (record_at s₁ i) refl)
        ∙ old i l

    at-end : node_at (with_record s₁ t) s.terms ≡ node
    at-end =
        ap (node_at (with_record s₁ t)) (sym terms)
        ∙ node_at-with s₁.terms t (with_record-at s₁ t room (record_of-wide s k node fit))
        ∙ node_of-record_of s₁ k node symbol

    counts : (with_record s₁ t).terms ≡ s.terms + 1
    unfolding with_record
    counts = ap (λ (n : ℕ). n + 1) terms

    appended :
        Beyond s (with_record s₁ t).records (with_record s₁ t).literals (with_record s₁ t).names →
        Takes s node s.terms (with_record s₁ t)
    appended b = record {
      grows = record {
        formed = well_formed-of-sound (with_record s₁ t) sound';
        more = omega (arith, counts);
        nodes = nodes';
        means = λ i q l m. means-kept s sound (with_record s₁ t) nodes' l m;
        beyond = b;
      };
      below = omega (arith, counts);
      is = at-end;
    }

-- a store with the node's name
module _ (s : Store) (name : List ℕ) (sound : Sound s) (s₁ : Store) (k : ℕ) (named : Named s name s₁ k) where
  named-record : (i : ℕ) → record_at s₁ i ≡ record_at s i
  named-record i = λ q. record_in (named.records q) (named.literals q) i

  named-node : (i : ℕ) → i < s.terms → node_at s₁ i ≡ node_at s i
  unfolding node_at
  named-node i l =
      ap (node_of s₁) (named-record i) ∙ node_of-same s s₁ i (record_at s i) named.old (sound.term i l)

  named-room : Room s → Room s₁
  named-room r = record {
    limit = omega (arith, r.limit, named.terms);
    records = omega (arith, r.records, named.terms, ap length named.records);
    literals = omega (arith, r.literals, named.terms, ap length named.literals);
  }

  named-takes :
      (node : Node) →
      Fit s node →
      find_term s node ≡ None →
      Symbol s₁ k node →
      Room s →
      Beyond s (with_record s₁ (record_of k node)).records (with_record s₁ (record_of k node)).literals
      (with_record s₁ (record_of k node)).names →
      Takes s node s.terms (with_record s₁ (record_of k node))
  named-takes node fit missing symbol room b =
      appended s node sound fit missing s₁ k named.sound named.terms named-node symbol
      (subst (λ (n : ℕ). SoundRecord s₁.symbols n (record_of k node)) (sym named.terms)
      (record_of-sound s k s₁.symbols node named.below fit))
      (named-room room) b

module _ (s : Store) (sound : Sound s) where
  append-takes :
      (node : Node) →
      Fit s node →
      find_term s node ≡ None →
      room_for s node ≡ true →
      Beyond s (append s node).records (append s node).literals (append s node).names →
      Takes s node s.terms (append s node)
  unfolding append room_for
  append-takes (literal z) fit missing r b =
      appended s (literal z) sound fit missing s 0 sound refl (λ i l. refl) tt (literal-sound s z)
      (room-of-terms s r) b
  append-takes (variable n) fit missing r b =
      let named = with_name-named s n sound fit (and_second (ltb s.terms (term_room s)) _ r) in
      named-takes s n sound (with_name s n) (symbol_for s n) named (variable n) fit missing named.is
      (room-of-terms s (and_first (ltb s.terms (term_room s)) _ r)) b
  append-takes (application n ks) fit missing r b =
      let named = with_name-named s n sound fit.0 (and_second (ltb s.terms (term_room s)) _ r) in
      named-takes s n sound (with_name s n) (symbol_for s n) named (application n ks) fit missing named.is
      (room-of-terms s (and_first (ltb s.terms (term_room s)) _ r)) b

-- "give the number of the term if it is already there, needing no room; else append it"
module _ (s : Store) (node : Node) (formed : well_formed s ≡ true) (fit : Fit s node) where
  room-gives :
      find_term s node ≡ None →
      (b : Bool) →
      room_for s node ≡ b →
      (a : Adds) →
      elim b as (λ _. Adds) [ true ↦ at s.terms (append s node) | false ↦ no_room ] ≡ a →
      (add s node ≡ a) →
      Gives s node a
  room-gives missing true r a e q =
      subst (Gives s node) e
      (append-takes s (sound-of-well_formed s formed) node fit missing r
      (add-beyond s node s.terms (append s node) (q ∙ sym e)))
  room-gives missing false r a e q = subst (Gives s node) e tt

  found-gives :
      (f : Option ℕ) →
      find_term s node ≡ f →
      (a : Adds) →
      elim f as (λ _. Adds) [
        | Some i ↦ at i s
        | None ↦ elim (room_for s node) [ true ↦ at s.terms (append s node) | false ↦ no_room ]
      ] ≡ a →
      (add s node ≡ a) →
      Gives s node a
  unfolding find_term
  found-gives (Some i) f a e q =
      let r = first-at (λ (j : ℕ). same_node (node_at s j) node) s.terms 0 i f in
      subst (Gives s node) e
      (record {
        grows = grows-refl s formed;
        below = omega (arith, r.1);
        is = same_node-tells.eq (node_at s i) node r.2;
      })
  found-gives None f a e q = room-gives f (room_for s node) refl a e q

  pub add-gives : Gives s node (add s node)
  unfolding add
  add-gives = found-gives (find_term s node) refl (add s node) refl refl
