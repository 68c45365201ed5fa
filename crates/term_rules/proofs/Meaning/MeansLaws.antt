-- What a term number means: one tree, and no other number means it. Assumes nothing.
use Prim.Native.Nat.{ℕ, suc, ◌<◌}
use mathlib.Core.Path.{◌≡◌, refl, ap, sym, ◌∙◌}
use mathlib.Core.List.{List, [], ◌∷◌}
use native.Mathlib.Omega.{arith}
use lib.ListN.{length, get_or}
use Rattle.term_rules.specs.Lent.{Store}
use Rattle.term_rules.specs.Nodes.{
  literal,
  variable,
  application,
  node_at,
  Tree,
  number,
  named,
  applied,
  Trees,
  none,
  more,
  Means,
  is_number,
  is_named,
  is_applied,
  MeansAll,
  is_none,
  is_more,
}
use Rattle.term_rules.specs.Facts.{Sound}
use Rattle.term_rules.proofs.Meaning.NodeLaws.{
  literal-variable,
  literal-application,
  variable-application,
  literal-same,
  variable-same,
  name-same,
  children-same,
  node-lower,
  node-once,
}

-- every number of the list is below n
abbrev pub Below : ℕ → List ℕ → Type 0
Below n ks = (j : ℕ) → j < length ks → get_or ks j 0 < n

pub below-head : (n k : ℕ) (ks : List ℕ) → Below n (k ∷ ks) → k < n
below-head n k ks b = b 0 (omega arith)

pub below-tail : (n k : ℕ) (ks : List ℕ) → Below n (k ∷ ks) → Below n ks
below-tail n k ks b j h = b (suc j) (omega arith)

no-cons : {P : Type 0} {k : ℕ} {ks : List ℕ} → ◌≡◌ {A = List ℕ} [] (k ∷ ks) → P
no-cons e = let z : ◌≡◌ {A = ℕ} 0 1 = cc in absurd (omega arith)

head-same : {j k : ℕ} {js ks : List ℕ} → ◌≡◌ {A = List ℕ} (j ∷ js) (k ∷ ks) → j ≡ k
head-same e = cc

tail-same : {j k : ℕ} {js ks : List ℕ} → ◌≡◌ {A = List ℕ} (j ∷ js) (k ∷ ks) → js ≡ ks
tail-same e = cc

-- a tree says what the node is
abbrev pub Says : Store → ℕ → Tree → Type 0
Says s i (number z) = node_at s i ≡ literal z
Says s i (named n) = node_at s i ≡ variable n
Says s i (applied n ts) = (ks : List ℕ) × (node_at s i ≡ application n ks) × MeansAll s ks ts

abbrev pub SaysAll : Store → List ℕ → Trees → Type 0
SaysAll s [] none = Unit
SaysAll s [] (more t ts) = ⊥
SaysAll s (k ∷ ks) none = ⊥
SaysAll s (k ∷ ks) (more t ts) = Means s k t × MeansAll s ks ts

module _ (s : Store) where
  pub says : {i : ℕ} {t : Tree} → Means s i t → Says s i t
  says (is_number z e) = e
  says (is_named n e) = e
  says (is_applied n ks ts e m) = (ks, e, m)

  pub says_all : {ks : List ℕ} {ts : Trees} → MeansAll s ks ts → SaysAll s ks ts
  says_all is_none = tt
  says_all (is_more m ms) = (m, ms)

  module _ (w : Sound s) where
    lower : (i : ℕ) (n ks : List ℕ) → i < s.terms → node_at s i ≡ application n ks → Below s.terms ks
    lower i n ks h e j l = omega (arith, node-lower s w i h n ks e j l)

    -- "equal terms have equal numbers"
    mutual
      pub means-once : (t : Tree) (i j : ℕ) → i < s.terms → j < s.terms → Means s i t → Means s j t → i ≡ j
      means-once (number z) i j h k a b = node-once s w i j h k (says a ∙ sym (says b))
      means-once (named n) i j h k a b = node-once s w i j h k (says a ∙ sym (says b))
      means-once (applied n ts) i j h k a b =
          let p = says a in
          let q = says b in
          let e : p.0 ≡ q.0 =
          means-all-once ts p.0 q.0 (lower i n p.0 h p.1) (lower j n q.0 k q.1) p.2 q.2 in
          node-once s w i j h k (p.1 ∙ ap (application n) e ∙ sym q.1)

      means-all-once :
          (ts : Trees) (js ks : List ℕ) →
          Below s.terms js →
          Below s.terms ks →
          MeansAll s js ts →
          MeansAll s ks ts →
          js ≡ ks
      means-all-once none [] [] b c p q = refl
      means-all-once none [] (k ∷ ks) b c p q = absurd (says_all q)
      means-all-once none (j ∷ js) ks b c p q = absurd (says_all p)
      means-all-once (more t ts) [] ks b c p q = absurd (says_all p)
      means-all-once (more t ts) (j ∷ js) [] b c p q = absurd (says_all q)
      means-all-once (more t ts) (j ∷ js) (k ∷ ks) b c p q =
          let p' = says_all p in
          let q' = says_all q in
          let d : j ≡ k =
          means-once t j k (below-head s.terms j js b) (below-head s.terms k ks c) p'.0 q'.0 in
          let e : js ≡ ks =
          means-all-once ts js ks (below-tail s.terms j js b) (below-tail s.terms k ks c) p'.1 q'.1 in
          cc

  -- "different terms have different numbers": a number means one tree
  mutual
    pub means-one : (t u : Tree) (i : ℕ) → Means s i t → Means s i u → t ≡ u
    means-one (number z) (number y) i a b = ap number (literal-same (sym (says a) ∙ says b))
    means-one (number z) (named n) i a b = literal-variable (sym (says a) ∙ says b)
    means-one (number z) (applied n ts) i a b = literal-application (sym (says a) ∙ (says b).1)
    means-one (named m) (number y) i a b = literal-variable (sym (says b) ∙ says a)
    means-one (named m) (named n) i a b = ap named (variable-same (sym (says a) ∙ says b))
    means-one (named m) (applied n ts) i a b = variable-application (sym (says a) ∙ (says b).1)
    means-one (applied m us) (number y) i a b = literal-application (sym (says b) ∙ (says a).1)
    means-one (applied m us) (named n) i a b = variable-application (sym (says b) ∙ (says a).1)
    means-one (applied m us) (applied n ts) i a b =
        let p = says a in
        let q = says b in
        let d : m ≡ n = name-same (sym p.1 ∙ q.1) in
        let e : us ≡ ts = means-all-one us ts p.0 q.0 (children-same (sym p.1 ∙ q.1)) p.2 q.2 in
        cc

    means-all-one : (ts us : Trees) (js ks : List ℕ) → js ≡ ks → MeansAll s js ts → MeansAll s ks us → ts ≡ us
    means-all-one none none js ks e p q = refl
    means-all-one none (more u us) [] [] e p q = absurd (says_all q)
    means-all-one none (more u us) [] (k ∷ ks) e p q = no-cons e
    means-all-one none (more u us) (j ∷ js) ks e p q = absurd (says_all p)
    means-all-one (more t ts) none [] ks e p q = absurd (says_all p)
    means-all-one (more t ts) none (j ∷ js) [] e p q = no-cons (sym e)
    means-all-one (more t ts) none (j ∷ js) (k ∷ ks) e p q = absurd (says_all q)
    means-all-one (more t ts) (more u us) [] ks e p q = absurd (says_all p)
    means-all-one (more t ts) (more u us) (j ∷ js) [] e p q = absurd (says_all q)
    means-all-one (more t ts) (more u us) (j ∷ js) (k ∷ ks) e p q =
        let p' = says_all p in
        let q' = says_all q in
        let a : j ≡ k = head-same e in
        let b : t ≡ u = means-one t u j p'.0 (rw a q'.0) in
        let c : ts ≡ us = means-all-one ts us js ks (tail-same e) p'.1 q'.1 in
        cc
