-- What a record means, and that it means the same in a store that has more. Assumes nothing.
use Prim.Native.Nat.{ℕ, suc, ◌+◌, ◌-◌, ◌≤◌, ◌<◌}
use mathlib.Core.Path.{◌≡◌, refl, sym, ap, subst, ◌∙◌}
use mathlib.Core.List.{List, ◌++◌}
use native.Mathlib.Omega.{arith}
use lib.ListN.{length, get_or, take, replicate, length-append, length-replicate, get_or-append}
use lib.Seq.{take-append_seam, get_or-append-add}
use lib.IntN.{ℤ}
use Rattle.term_rules.specs.declared.Term.{Term}
use Rattle.term_rules.specs.Lent.{Store, symbol_at}
use Rattle.term_rules.specs.Nodes.{
  Node,
  literal,
  variable,
  application,
  node_of,
  node_at,
  record_of,
  Tree,
  Trees,
  Means,
  is_number,
  is_named,
  is_applied,
  MeansAll,
  is_none,
  is_more,
}
use Rattle.term_rules.specs.Facts.{SoundRecord, a_literal, a_variable, an_application, Sound}
use Rattle.term_rules.proofs.Meaning.NodeLaws.{node_of-literal, node_of-variable, node_of-application, node-lower}
use Rattle.term_rules.specs.Growing.{Fit}
use Rattle.name.proofs.PasteLaws.{get_d-zeros}

-- a sound record means the same where its symbols are the same
pub node_of-same :
    (s s' : Store) (i : ℕ) (t : Term) →
    ((k : ℕ) → k < s.symbols → symbol_at s' k ≡ symbol_at s k) →
    SoundRecord s.symbols i t →
    node_of s' t ≡ node_of s t
node_of-same s s' i t old (a_literal f) = node_of-literal s' t f.kind ∙ sym (node_of-literal s t f.kind)
node_of-same s s' i t old (a_variable f) =
    node_of-variable s' t f.kind ∙ ap variable (old t.symbol f.symbol) ∙ sym (node_of-variable s t f.kind)
node_of-same s s' i t old (an_application f) =
    node_of-application s' t f.kind
    ∙ ap (λ (n : List ℕ). application n (take t.count t.children)) (old t.symbol f.symbol)
    ∙ sym (node_of-application s t f.kind)

-- the name of a node is symbol k of the store
abbrev pub Symbol : Store → ℕ → Node → Type 0
Symbol s k (literal z) = Unit
Symbol s k (variable n) = symbol_at s k ≡ n
Symbol s k (application n ks) = symbol_at s k ≡ n

-- a node's record means the node
pub node_of-record_of : (s : Store) (k : ℕ) (node : Node) → Symbol s k node → node_of s (record_of k node) ≡ node
unfolding record_of
node_of-record_of s k (literal z) e = node_of-literal s (record_of k (literal z)) refl
node_of-record_of s k (variable n) e = node_of-variable s (record_of k (variable n)) refl ∙ ap variable e
node_of-record_of s k (application n ks) e =
    node_of-application s (record_of k (application n ks)) refl
    ∙ ap (λ (m : List ℕ). application m (take (length ks) (ks ++ replicate (8 - length ks) 0))) e
    ∙ ap (application n) (take-append_seam ks (replicate (8 - length ks) 0))

past-children : (ks : List ℕ) (j n : ℕ) → length ks ≤ j → get_or (ks ++ replicate n 0) j 0 ≡ 0
past-children ks j n h =
    let e : j ≡ length ks + (j - length ks) = omega arith in
    ap (λ (i : ℕ). get_or (ks ++ replicate n 0) i 0) e
    ∙ get_or-append-add ks (replicate n 0) (j - length ks) 0
    ∙ get_d-zeros n (j - length ks)

-- a literal's record is sound, whatever the symbols
pub literal-sound : (s : Store) (z : ℤ) → SoundRecord s.symbols s.terms (record_of 0 (literal z))
unfolding record_of
literal-sound s z = a_literal (record { kind = refl; symbol = refl; count = refl; unused = get_d-zeros 8 })

-- a node's record is sound
pub record_of-sound : (s : Store) (k m : ℕ) (node : Node) → k < m → Fit s node
    → SoundRecord m s.terms (record_of k node)
unfolding record_of
record_of-sound s k m (literal z) l f =
    a_literal (record { kind = refl; symbol = refl; count = refl; unused = get_d-zeros 8 })
record_of-sound s k m (variable n) l f =
    a_variable (record { kind = refl; symbol = l; count = refl; literal = refl; unused = get_d-zeros 8 })
record_of-sound s k m (application n ks) l f =
    an_application (record {
      kind = refl;
      symbol = l;
      count = f.1;
      literal = refl;
      lower = λ j h.
          subst (λ (x : ℕ). x < s.terms) (sym (get_or-append ks (replicate (8 - length ks) 0) 0 j h)) (f.2 j h);
      unused = λ j h. past-children ks j (8 - length ks) h;
    })

pub record_of-wide : (s : Store) (k : ℕ) (node : Node) → Fit s node → length (record_of k node).children ≡ 8
unfolding record_of
record_of-wide s k (literal z) f = refl
record_of-wide s k (variable n) f = refl
record_of-wide s k (application n ks) f = simp (length-append, length-replicate) (omega (arith, f.1))

module _ (s : Store) (sound : Sound s) where
  -- what a term means stays where the nodes stay
  module _ (s' : Store) (nodes : (i : ℕ) → i < s.terms → node_at s' i ≡ node_at s i) where
    mutual
      pub means-kept : {i : ℕ} {t : Tree} → i < s.terms → Means s i t → Means s' i t
      means-kept {i = i} l (is_number z e) = is_number z (nodes i l ∙ e)
      means-kept {i = i} l (is_named n e) = is_named n (nodes i l ∙ e)
      means-kept {i = i} l (is_applied n ks ts e h) =
          is_applied n ks ts (nodes i l ∙ e) (means_all-kept (λ j b. omega (arith, node-lower s sound i l n ks e j b)) h)

      means_all-kept :
          {ks : List ℕ} {ts : Trees} →
          ((j : ℕ) → j < length ks → get_or ks j 0 < s.terms) →
          MeansAll s ks ts →
          MeansAll s' ks ts
      means_all-kept b is_none = is_none
      means_all-kept b (is_more h hs) =
          is_more (means-kept (b 0 (omega arith)) h) (means_all-kept (λ j l. b (suc j) (omega arith)) hs)
