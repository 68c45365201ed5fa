-- Numbers of two well-formed stores that mean the same tree have the same texts. Assumes nothing.
use mathlib.Core.Path.{◌≡◌, refl, sym, ap, subst, ◌∙◌}
use mathlib.Core.Bool.{true}
use mathlib.Core.List.{List}
use Prim.{Dec, yes, no}
use Prim.Native.Nat.{ℕ, suc, ◌+◌, ◌<◌}
use native.Mathlib.Omega.{arith}
use native.Mathlib.Decide.{ℕ_discrete}
use lib.ListN.{length, get_or}
use lib.Dec.{eqb}
use borrow.Author.Tests.{eq-eqb, ne_eqb}
use Rattle.term_rules.specs.Lent.{Store}
use Rattle.term_rules.specs.WellFormed.{well_formed}
use Rattle.term_rules.specs.Nodes.{
  node_at,
  Tree,
  Trees,
  Means,
  is_number,
  is_named,
  is_applied,
  MeansAll,
  is_none,
  is_more,
}
use Rattle.term_rules.specs.Trees.{tree_at}
use Rattle.term_rules.specs.Growing.{Grows}
use Rattle.term.proofs.Promises.{promises as store-promises}
use Rattle.text_rules.specs.LetText.{Naming, let_text, next_count}
use Rattle.text_rules.specs.PlainText.{plain_text}
use Rattle.text_whole.specs.Alike.{Both, Lower, SameNode, Alike}
use Rattle.text_whole.proofs.Alike.TextLaws.{plain-both, let-both, bound-length}

module _ (s s' : Store) (w : well_formed s ≡ true) (w' : well_formed s' ≡ true) where
  -- term i of the one store and term j of the other mean the same tree
  record Twin (i j : ℕ) : Type 0 where
    left : i < s.terms
    right : j < s'.terms
    tree : Tree
    means : Means s i tree
    means' : Means s' j tree

  twins-all :
      (i j : ℕ) →
      i < s.terms →
      j < s'.terms →
      {ts : Trees} {ks ls : List ℕ} →
      MeansAll s ks ts →
      MeansAll s' ls ts →
      ((a : ℕ) → a < length ks → get_or ks a 0 < i) →
      ((a : ℕ) → a < length ls → get_or ls a 0 < j) →
      Both (Lower Twin i j) ks ls
  unfolding Both
  twins-all i j h g is_none is_none p q = tt
  twins-all i j h g (is_more {t = t} m ms) (is_more n ns) p q =
      let c = p 0 (omega arith) in
      let d = q 0 (omega arith) in (
        record {
          same =
              record { left = omega arith; right = omega arith; tree = t; means = m; means' = n };
          left = c;
          right = d;
        },
        twins-all i j h g ms ns (λ x y. p (suc x) (omega arith)) (λ x y. q (suc x) (omega arith)),
      )

  twins-node :
      (i j : ℕ) →
      i < s.terms →
      j < s'.terms →
      {t : Tree} →
      Means s i t →
      Means s' j t →
      SameNode (Lower Twin i j) (node_at s i) (node_at s' j)
  unfolding SameNode
  twins-node i j h g (is_number z e) (is_number y f) = rw (e, f) refl
  twins-node i j h g (is_named x e) (is_named y f) = rw (e, f) refl
  twins-node i j h g (is_applied x ks ts e m) (is_applied y ls us f n) =
      rw (e, f) (
        refl,
        twins-all i j h g m n (store-promises.children_lower s i x ks w h e)
            (store-promises.children_lower s' j x ls w' g f),
      )

  twins-right : (i j k l : ℕ) → Twin i j → Twin k l → i ≡ k → j ≡ l
  twins-right i j k l p q e =
      let d : p.tree ≡ q.tree =
      store-promises.one_term s i p.tree q.tree p.means
      (subst (λ (x : ℕ). Means s x q.tree) (sym e) q.means) in
      store-promises.one_number s' j l q.tree w' p.right q.right (subst (Means s' j) d p.means') q.means'

  twins-left : (i j k l : ℕ) → Twin i j → Twin k l → j ≡ l → i ≡ k
  twins-left i j k l p q e =
      let d : p.tree ≡ q.tree =
      store-promises.one_term s' j p.tree q.tree p.means'
      (subst (λ (x : ℕ). Means s' x q.tree) (sym e) q.means') in
      store-promises.one_number s i k q.tree w p.left q.left (subst (Means s i) d p.means) q.means

  twins-once : (i j k l : ℕ) → Twin i j → Twin k l → eqb i k ≡ eqb j l
  twins-once i j k l p q = by (ℕ_discrete i k)
    where
      by : Dec (i ≡ k) → eqb i k ≡ eqb j l
      by (yes e) = eq-eqb i k e ∙ sym (eq-eqb j l (twins-right i j k l p q e))
      by (no n) = ne_eqb i k n ∙ sym (ne_eqb j l (λ (e : j ≡ l). n (twins-left i j k l p q e)))

  twins-alike : Alike (node_at s) (node_at s') Twin
  twins-alike = record {
    same = λ i j r. twins-node i j r.left r.right r.means r.means';
    once = twins-once;
  }

-- numbers that mean the same tree have the same texts
module _
    (s s' : Store)
    (i j : ℕ)
    (t : Tree)
    (w : well_formed s ≡ true)
    (w' : well_formed s' ≡ true)
    (h : i < s.terms)
    (g : j < s'.terms)
    (m : Means s i t)
    (m' : Means s' j t)
  where
    twin : Twin s s' w w' i j
    twin = record { left = h; right = g; tree = t; means = m; means' = m' }

    pub plain-of-tree : plain_text s i ≡ plain_text s' j
    unfolding plain_text
    plain-of-tree =
        plain-both (node_at s) (node_at s') (Twin s s' w w') (twins-alike s s' w w') i j twin

    pub let-of-tree : (nm : Naming) → let_text s nm i ≡ let_text s' nm j
    unfolding let_text
    let-of-tree nm =
        let-both (node_at s) (node_at s') (Twin s s' w w') (twins-alike s s' w w') nm i j twin

    pub next-of-tree : (nm : Naming) → next_count s nm i ≡ next_count s' nm j
    unfolding next_count
    next-of-tree nm =
        ap (λ (n : ℕ). nm.start + n)
        (bound-length (node_at s) (node_at s') (Twin s s' w w') (twins-alike s s' w w') i j twin)

-- a store that has grown keeps the texts of its terms
module _ (s s' : Store) (w : well_formed s ≡ true) (g : Grows s s') (i : ℕ) (h : i < s.terms) where
  grown-means : Means s i (tree_at s i)
  grown-means = store-promises.meant s i w h

  grown-below : i < s'.terms
  grown-below = omega (arith, g.more)

  pub plain-of-grown : plain_text s' i ≡ plain_text s i
  plain-of-grown =
      sym
      (plain-of-tree s s' i i (tree_at s i) w g.formed h grown-below grown-means
      (g.means i (tree_at s i) h grown-means))

  pub let-of-grown : (nm : Naming) → let_text s' nm i ≡ let_text s nm i
  let-of-grown nm =
      sym
      (let-of-tree s s' i i (tree_at s i) w g.formed h grown-below grown-means
      (g.means i (tree_at s i) h grown-means) nm)

  pub next-of-grown : (nm : Naming) → next_count s' nm i ≡ next_count s nm i
  next-of-grown nm =
      sym
      (next-of-tree s s' i i (tree_at s i) w g.formed h grown-below grown-means
      (g.means i (tree_at s i) h grown-means) nm)
