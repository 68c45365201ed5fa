-- The laws of the text that is written: it does not depend on the bound of its depth, and what it is in each case of
-- the code. Assumes nothing.
use mathlib.Core.Path.{◌≡◌, refl, sym, ap, ◌∙◌}
use mathlib.Core.List.{List, [], ◌∷◌, ◌++◌}
use Prim.{Dec, yes, no}
use Prim.Native.Nat.{ℕ, zero, suc, ◌+◌, ◌-◌, ◌<◌, ◌≤◌}
use native.Mathlib.Omega.{arith}
use native.Mathlib.Decide.{ℕ_discrete}
use lib.ListN.{length, get_or, length-append}
use lib.IntN.{ℤ, pos}
use borrow.Author.Tests.{lt-ltb, le-ltb}
use Rattle.name.specs.Entries.{name_at}
use Rattle.term_rules.specs.Nodes.{Node, literal, variable}
use Rattle.text_rules.specs.Forms.{children, each, form}
use Rattle.text_rules.proofs.FormLaws.{form-same, form-of-application}
use Rattle.term_rules.specs.Lent.{kind_at, symbol_no, kids_at}
use Rattle.text_pieces.specs.Readable.{nodes, head_text, Inside, Readable}
use Rattle.text_pieces.proofs.heads.NodeLaws.{node-literal, node-variable, node-application, children-of-nodes}
use Rattle.text_write.specs.Piece.{View, shown_above, shown_in, gap_of, body_in, body, piece}

shown_in-same : (v : View) (g h : ℕ → List ℕ) (k : ℕ) → g k ≡ h k → shown_in v g k ≡ shown_in v h k
unfolding shown_in
shown_in-same v g h k e = ap (shown_above v 0 k) e

-- the children of every term below n are lower
abbrev pub Lower : View → ℕ → Type 0
Lower v n = (t : ℕ) → t < n → Inside t (children (v.node t))

module _ (v : View) (n : ℕ) (lower : Lower v n) where
  body_in-enough : (f g m i t : ℕ) → t < n → t < f → t < g → body_in v f m i t ≡ body_in v g m i t
  unfolding body_in
  body_in-enough zero g m i t k p q = let z : ⊥ = omega arith in absurd z
  body_in-enough (suc f) zero m i t k p q = let z : ⊥ = omega arith in absurd z
  body_in-enough (suc f) (suc g) m i t k p q =
      form-same (gap_of v m i t) (shown_in v (body_in v f m (i + 2))) (shown_in v (body_in v g m (i + 2))) (v.node t)
      (λ j l.
      let h : get_or (children (v.node t)) j 0 < t = lower t k j l in
      shown_in-same v (body_in v f m (i + 2)) (body_in v g m (i + 2)) (get_or (children (v.node t)) j 0)
      (body_in-enough f g m (i + 2) (get_or (children (v.node t)) j 0) (omega arith) (omega arith) (omega arith)))

  -- a body is the form of its children's pieces
  pub body-step : (m i t : ℕ) → t < n → body v m i t ≡ form (gap_of v m i t) (piece v 0 m (i + 2)) (v.node t)
  unfolding body body_in piece shown_in
  body-step m i t k =
      form-same (gap_of v m i t) (shown_in v (body_in v t m (i + 2))) (piece v 0 m (i + 2)) (v.node t)
      (λ j l.
      let h : get_or (children (v.node t)) j 0 < t = lower t k j l in
      ap (shown_above v 0 (get_or (children (v.node t)) j 0))
      (body_in-enough t (suc (get_or (children (v.node t)) j 0)) m (i + 2) (get_or (children (v.node t)) j 0)
      (omega arith) h (omega arith)))

module _ (v : View) (lim m i t : ℕ) where
  pub piece-of-named : lim < v.place t → piece v lim m i t ≡ v.name (v.place t - 1)
  unfolding piece shown_above
  piece-of-named l = rw (lt-ltb lim (v.place t) l, shown_above)

  pub piece-of-unnamed : v.place t ≤ lim → piece v lim m i t ≡ body v m i t
  unfolding piece shown_above
  piece-of-unnamed l = rw (le-ltb lim (v.place t) l, shown_above)

-- a readable store's children are lower
pub lower-of-readable :
    (rs : List ℕ) (ls : List ℤ) (ns : List ℕ) (n : ℕ) →
    Readable rs ls ns n →
    (t : ℕ) →
    t < n →
    Inside t (children (nodes rs ls ns t))
lower-of-readable rs ls ns n r t k = rw (children-of-nodes rs ls ns n r t k) (r.lower t k)

form-of-literal : (gap : List ℕ) (g : ℕ → List ℕ) (z : ℤ) → form gap g (literal z) ≡ head_text (literal z)
unfolding form
form-of-literal gap g z = refl

form-of-variable : (gap : List ℕ) (g : ℕ → List ℕ) (n : List ℕ) → form gap g (variable n) ≡ n
unfolding form
form-of-variable gap g n = refl

-- a form, by the kind of the record: a leaf is its head; an application its head, its children, and a bracket
module _ (rs : List ℕ) (ls : List ℤ) (ns : List ℕ) (n : ℕ) (r : Readable rs ls ns n) (t : ℕ) (k : t < n) where
  pub form-of-leaf :
      (gap : List ℕ) (g : ℕ → List ℕ) →
      (kind_at rs t ≡ 2 → ⊥) →
      form gap g (nodes rs ls ns t) ≡ head_text (nodes rs ls ns t)
  form-of-leaf gap g two = by (ℕ_discrete (kind_at rs t) 0)
    where
      by : Dec (kind_at rs t ≡ 0) → form gap g (nodes rs ls ns t) ≡ head_text (nodes rs ls ns t)
      by (yes e) =
          ap (form gap g) (node-literal rs ls ns t e)
          ∙ (form-of-literal gap g (get_or ls t (pos 0)) ∙ sym (ap head_text (node-literal rs ls ns t e)))
      by (no z) =
          let e : kind_at rs t ≡ 1 = omega (arith, r.kind t k) in
          ap (form gap g) (node-variable rs ls ns t e)
          ∙ (form-of-variable gap g (name_at ns (symbol_no rs t)) ∙ sym (ap head_text (node-variable rs ls ns t e)))

  pub form-of-applied :
      (gap : List ℕ) (g : ℕ → List ℕ) →
      kind_at rs t ≡ 2 →
      form gap g (nodes rs ls ns t) ≡ head_text (nodes rs ls ns t) ++ (each gap g (kids_at rs t) ++ (41 ∷ []))
  form-of-applied gap g e =
      let a = node-application rs ls ns t e in
      ap (form gap g) a
      ∙ (form-of-application gap g (name_at ns (symbol_no rs t)) (kids_at rs t)
      ∙ sym (ap (λ (x : Node). head_text x ++ (each gap g (kids_at rs t) ++ (41 ∷ []))) a))

  -- the head is part of the form
  pub head-in-form : (gap : List ℕ) (g : ℕ → List ℕ)
      → length (head_text (nodes rs ls ns t)) ≤ length (form gap g (nodes rs ls ns t))
  head-in-form gap g = by (ℕ_discrete (kind_at rs t) 2)
    where
      by : Dec (kind_at rs t ≡ 2) → length (head_text (nodes rs ls ns t)) ≤ length (form gap g (nodes rs ls ns t))
      by (yes e) =
          let h = form-of-applied gap g e in
          omega (
            arith,
            ap length h,
            length-append (head_text (nodes rs ls ns t)) (each gap g (kids_at rs t) ++ (41 ∷ [])),
          )
      by (no e) = omega (arith, ap length (form-of-leaf gap g e))
