-- Plain text and let text go by the terms, not by their numbers. Assumes nothing.
use mathlib.Core.Path.{◌≡◌, refl, sym, ap, ◌∙◌}
use mathlib.Core.Bool.{Bool, true, false}
use mathlib.Core.List.{List, [], ◌∷◌}
use Prim.Native.Nat.{ℕ, zero, suc, ◌+◌, ◌<◌}
use native.Mathlib.Omega.{arith}
use lib.ListN.{length}
use Rattle.term_rules.specs.Nodes.{Node, literal, variable, application}
use Rattle.text_rules.specs.Forms.{children, each, form, Called, by_text, shown, child_text, line_in, line}
use Rattle.text_rules.specs.Bindings.{Bound}
use Rattle.text_rules.specs.LetText.{
  Naming,
  called_at,
  called,
  any_several,
  new_line,
  breaks,
  own_in,
  own,
  let_lines,
  text_with,
  bindings_of,
  let_layout,
}
use Rattle.text_rules.specs.PlainText.{plain_line}
use Rattle.text_rules.proofs.FormLaws.{child_text-is}
use Rattle.text_whole.specs.Alike.{Both, Lower, AlikeKids, SameNode, Alike, SameBound}
use Rattle.text_whole.proofs.Alike.KidLaws.{pick, pick-both, both-length, find-both, bindings-both}

-- ---- forms
each_both :
    (Q : ℕ → ℕ → Type 0) (gap : List ℕ) (g h : ℕ → List ℕ) →
    ((k l : ℕ) → Q k l → g k ≡ h l) →
    (ks ls : List ℕ) →
    Both Q ks ls →
    each gap g ks ≡ each gap h ls
unfolding Both each
each_both Q gap g h e [] [] b = refl
each_both Q gap g h e [] (l ∷ ls) b = absurd b
each_both Q gap g h e (k ∷ ks) [] b = absurd b
each_both Q gap g h e (k ∷ ks) (l ∷ ls) b = rw (e k l b.0, each_both Q gap g h e ks ls b.1)

form_both :
    (Q : ℕ → ℕ → Type 0) (gap : List ℕ) (g h : ℕ → List ℕ) →
    ((k l : ℕ) → Q k l → g k ≡ h l) →
    (x y : Node) →
    SameNode Q x y →
    form gap g x ≡ form gap h y
unfolding SameNode form
form_both Q gap g h e (literal y) (literal z) b = rw b
form_both Q gap g h e (literal y) (variable n) b = absurd b
form_both Q gap g h e (literal y) (application n ks) b = absurd b
form_both Q gap g h e (variable m) (literal z) b = absurd b
form_both Q gap g h e (variable m) (variable n) b = b
form_both Q gap g h e (variable m) (application n ks) b = absurd b
form_both Q gap g h e (application m js) (literal z) b = absurd b
form_both Q gap g h e (application m js) (variable n) b = absurd b
form_both Q gap g h e (application m js) (application n ks) b = rw (b.0, each_both Q gap g h e js ks b.1)

any-both :
    (Q : ℕ → ℕ → Type 0) (g h : ℕ → List ℕ) →
    ((k l : ℕ) → Q k l → g k ≡ h l) →
    (ks ls : List ℕ) →
    Both Q ks ls →
    any_several g ks ≡ any_several h ls
unfolding Both any_several
any-both Q g h e [] [] b = refl
any-both Q g h e [] (l ∷ ls) b = absurd b
any-both Q g h e (k ∷ ks) [] b = absurd b
any-both Q g h e (k ∷ ks) (l ∷ ls) b = rw (e k l b.0, any-both Q g h e ks ls b.1)

children-both : (Q : ℕ → ℕ → Type 0) (x y : Node) → SameNode Q x y → Both Q (children x) (children y)
unfolding SameNode Both
children-both Q (literal y) (literal z) b = tt
children-both Q (literal y) (variable n) b = absurd b
children-both Q (literal y) (application n ks) b = absurd b
children-both Q (variable m) (literal z) b = absurd b
children-both Q (variable m) (variable n) b = tt
children-both Q (variable m) (application n ks) b = absurd b
children-both Q (application m js) (literal z) b = absurd b
children-both Q (application m js) (variable n) b = absurd b
children-both Q (application m js) (application n ks) b = b.1

-- ---- terms that are called the same
module _
    (node node' : ℕ → Node)
    (R : ℕ → ℕ → Type 0)
    (w : Alike node node' R)
    (c c' : ℕ → Called)
    (calls : (t u : ℕ) → R t u → c t ≡ c' u)
  where
    child-both :
        (t u : ℕ) (g h : ℕ → List ℕ) →
        ((k l : ℕ) → Lower R t u k l → g k ≡ h l) →
        (k l : ℕ) →
        Lower R t u k l →
        child_text c g k ≡ child_text c' h l
    child-both t u g h e k l b =
        child_text-is c g k
        ∙ (ap (λ (x : Called). shown x (g k)) (calls k l b.same)
        ∙ (ap (shown (c' l)) (e k l b) ∙ sym (child_text-is c' h l)))

    line_in-both :
        (f g t u : ℕ) → R t u → t < f → u < g → line_in node c f t ≡ line_in node' c' g u
    unfolding line_in
    line_in-both zero g t u r l m = let z : ⊥ = omega arith in absurd z
    line_in-both (suc f) zero t u r l m = let z : ⊥ = omega arith in absurd z
    line_in-both (suc f) (suc g) t u r l m =
        form_both (Lower R t u) (32 ∷ []) (child_text c (line_in node c f)) (child_text c' (line_in node' c' g))
        (child-both t u (line_in node c f) (line_in node' c' g)
        (λ k v h. line_in-both f g k v h.same (omega (arith, h.left)) (omega (arith, h.right)))) (node t) (node' u)
        (w.same t u r)

    pub line-both : (t u : ℕ) → R t u → line node c t ≡ line node' c' u
    unfolding line
    line-both t u r = line_in-both (suc t) (suc u) t u r (omega arith) (omega arith)

    own-step :
        (node : ℕ → Node) (c : ℕ → Called) (f m i t : ℕ) →
        own_in node c (suc f) m i t
        ≡ pick
        (breaks i (length (line_in node c (suc f) t)) (child_text c (own_in node c f m (i + 2))) (children (node t)))
        (form (new_line (m + (i + 2))) (child_text c (own_in node c f m (i + 2))) (node t)) (line_in node c (suc f) t)
    unfolding own_in
    own-step node c f m i t =
        go
        (breaks i (length (line_in node c (suc f) t)) (child_text c (own_in node c f m (i + 2))) (children (node t)))
      where
        go :
            (b : Bool) →
            elim b [
              | true ↦ form (new_line (m + (i + 2))) (child_text c (own_in node c f m (i + 2))) (node t)
              | false ↦ line_in node c (suc f) t
            ]
            ≡ pick b (form (new_line (m + (i + 2))) (child_text c (own_in node c f m (i + 2))) (node t))
            (line_in node c (suc f) t)
        go true = refl
        go false = refl

    breaks-both :
        (i t u x y : ℕ) (g h : ℕ → List ℕ) →
        R t u →
        x ≡ y →
        ((k l : ℕ) → Lower R t u k l → g k ≡ h l) →
        breaks i x g (children (node t)) ≡ breaks i y h (children (node' u))
    unfolding breaks
    breaks-both i t u x y g h r e q =
        rw (
          e,
          any-both (Lower R t u) g h q (children (node t)) (children (node' u))
              (children-both (Lower R t u) (node t) (node' u) (w.same t u r)),
        )

    own_in-both :
        (f g m i t u : ℕ) → R t u → t < f → u < g → own_in node c f m i t ≡ own_in node' c' g m i u
    own_in-both zero g m i t u r l o = let z : ⊥ = omega arith in absurd z
    own_in-both (suc f) zero m i t u r l o = let z : ⊥ = omega arith in absurd z
    own_in-both (suc f) (suc g) m i t u r l o =
        let q : (k v : ℕ) → Lower R t u k v →
        child_text c (own_in node c f m (i + 2)) k ≡ child_text c' (own_in node' c' g m (i + 2)) v =
        child-both t u (own_in node c f m (i + 2)) (own_in node' c' g m (i + 2))
        (λ k v h. own_in-both f g m (i + 2) k v h.same (omega (arith, h.left)) (omega (arith, h.right))) in
        let e : line_in node c (suc f) t ≡ line_in node' c' (suc g) u = line_in-both (suc f) (suc g) t u r l o in
        rw (own-step node c f m i t, own-step node' c' g m i u)
        (pick-both (λ (x y : List ℕ). x ≡ y) _ _ _ _ _ _
        (breaks-both i t u (length (line_in node c (suc f) t)) (length (line_in node' c' (suc g) u))
        (child_text c (own_in node c f m (i + 2))) (child_text c' (own_in node' c' g m (i + 2))) r (ap length e) q)
        (form_both (Lower R t u) (new_line (m + (i + 2))) (child_text c (own_in node c f m (i + 2)))
        (child_text c' (own_in node' c' g m (i + 2))) q (node t) (node' u) (w.same t u r)) e)

    own-both : (m i t u : ℕ) → R t u → own node c m i t ≡ own node' c' m i u
    unfolding own
    own-both m i t u r = own_in-both (suc t) (suc u) m i t u r (omega arith) (omega arith)

    lines-both :
        (nm : Naming) (n : ℕ) (bs cs : List Bound) →
        Both (SameBound R) bs cs →
        let_lines node nm c n bs ≡ let_lines node' nm c' n cs
    unfolding Both let_lines
    lines-both nm n [] [] b = refl
    lines-both nm n [] (y ∷ cs) b = absurd b
    lines-both nm n (x ∷ bs) [] b = absurd b
    lines-both nm n (x ∷ bs) (y ∷ cs) b =
        rw (
          own-both 2 x.indent x.term y.term b.0.term,
          b.0.indent,
          lines-both nm (n + 1) bs cs b.1,
        )

-- ---- the texts
module _ (node node' : ℕ → Node) (R : ℕ → ℕ → Type 0) (w : Alike node node' R) where
  pub plain-both : (t u : ℕ) → R t u → plain_line node t ≡ plain_line node' u
  unfolding plain_line
  plain-both t u r = line-both node node' R w (λ (k : ℕ). by_text) (λ (k : ℕ). by_text) (λ x y q. refl) t u r

  called-both :
      (nm : Naming) (bs cs : List Bound) →
      Both (SameBound R) bs cs →
      (t u : ℕ) →
      R t u →
      called nm bs t ≡ called nm cs u
  unfolding called
  called-both nm bs cs b t u r = ap (called_at nm) (find-both R w.once t u r 0 bs cs b)

  text-both :
      (nm : Naming) (t u : ℕ) (bs cs : List Bound) →
      R t u →
      Both (SameBound R) bs cs →
      text_with node nm t bs ≡ text_with node' nm u cs
  unfolding text_with
  text-both nm t u bs cs r b =
      rw (
        lines-both node node' R w (called nm bs) (called nm cs) (called-both nm bs cs b) nm 0 bs cs b,
        own-both node node' R w (called nm bs) (called nm cs) (called-both nm bs cs b) 0 0 t u r,
      )

  kids-alike : AlikeKids (λ (u : ℕ). children (node u)) (λ (u : ℕ). children (node' u)) R
  kids-alike = record {
    kin = λ i j r. children-both (Lower R i j) (node i) (node' j) (w.same i j r);
    once = w.once;
  }

  bound-both : (t u : ℕ) → R t u → Both (SameBound R) (bindings_of node t) (bindings_of node' u)
  unfolding bindings_of
  bound-both t u r =
      bindings-both (λ (u : ℕ). children (node u)) (λ (u : ℕ). children (node' u)) R kids-alike t u r

  pub let-both : (nm : Naming) (t u : ℕ) → R t u → let_layout node nm t ≡ let_layout node' nm u
  unfolding let_layout
  let-both nm t u r = text-both nm t u (bindings_of node t) (bindings_of node' u) r (bound-both t u r)

  -- as many bindings, so the same next count
  pub bound-length : (t u : ℕ) → R t u → length (bindings_of node t) ≡ length (bindings_of node' u)
  bound-length t u r =
      both-length (SameBound R) (bindings_of node t) (bindings_of node' u) (bound-both t u r)
