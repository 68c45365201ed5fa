-- Text without let names and without new lines is one line: what the writer writes for plain text. Assumes nothing.
use mathlib.Core.Path.{◌≡◌, refl, sym, ap, ◌∙◌}
use mathlib.Core.List.{List, [], ◌∷◌}
use Prim.Native.Nat.{ℕ, zero, suc, ◌+◌, ◌*◌, ◌<◌, ◌≤◌}
use native.Mathlib.Omega.{arith}
use lib.ListN.{get_or}
use borrow.Author.Tests.{le-ltb}
use Rattle.term_rules.specs.Nodes.{Node}
use Rattle.text_rules.specs.Forms.{children, Called, by_text, shown, child_text, line_in, line}
use Rattle.text_rules.proofs.FormLaws.{form-same, child_text-is}
use Rattle.text_pieces.proofs.PieceLaws.{gap_text-narrow}
use Rattle.text_write.specs.Piece.{View, shown_above, shown_in, gap_of, body_in, body, piece}
use Rattle.text_write.proofs.PieceLaws.{Lower}
use Rattle.text_write.proofs.widths.WidthLaws.{shown-of-text}

-- terms that are called the same have the same line
pub line_in-called :
    (node : ℕ → Node) (c d : ℕ → Called) →
    ((k : ℕ) → c k ≡ d k) →
    (f t : ℕ) →
    line_in node c f t ≡ line_in node d f t
unfolding line_in
line_in-called node c d e zero t = refl
line_in-called node c d e (suc f) t =
    form-same (32 ∷ []) (child_text c (line_in node c f)) (child_text d (line_in node d f)) (node t)
    (λ j l.
    child_text-is c (line_in node c f) (get_or (children (node t)) j 0)
    ∙ (ap (λ (x : Called). shown x (line_in node c f (get_or (children (node t)) j 0))) (e (get_or (children (node
    t)) j 0))
    ∙ (ap (shown (d (get_or (children (node t)) j 0))) (line_in-called node c d e f (get_or (children (node t)) j 0))
    ∙ sym (child_text-is d (line_in node d f) (get_or (children (node t)) j 0)))))

pub line-called :
    (node : ℕ → Node) (c d : ℕ → Called) → ((k : ℕ) → c k ≡ d k) → (t : ℕ) → line node c t ≡ line node d t
unfolding line
line-called node c d e t = line_in-called node c d e (suc t) t

pub shown_above-text : (v : View) (lim t : ℕ) (text : List ℕ) → v.place t ≤ lim → shown_above v lim t text ≡ text
unfolding shown_above
shown_above-text v lim t text l = rw (le-ltb lim (v.place t) l, shown_above)

module _
    (v : View)
    (n : ℕ)
    (lower : Lower v n)
    (unnamed : (t : ℕ) → v.place t ≡ 0)
    (narrow : (t : ℕ) → t < n → 4096 + v.wide t ≤ v.limit)
  where
    body_in-flat :
        (f m i t : ℕ) →
        t < n →
        t < f →
        i + 2 * t ≤ 4096 →
        body_in v f m i t ≡ line_in v.node (λ (k : ℕ). by_text) f t
    unfolding body_in line_in shown_in
    body_in-flat zero m i t k p l = let z : ⊥ = omega arith in absurd z
    body_in-flat (suc f) m i t k p l =
        let g : gap_of v m i t ≡ 32 ∷ [] =
        gap_text-narrow v.limit (i + v.wide t) (m + i + 2) (omega (arith, narrow t k)) in
        rw g
        (form-same (32 ∷ []) (shown_in v (body_in v f m (i + 2)))
        (child_text (λ (k : ℕ). by_text) (line_in v.node (λ (k : ℕ). by_text) f)) (v.node t)
        (λ j lj.
        let h : get_or (children (v.node t)) j 0 < t = lower t k j lj in
        let u : v.place (get_or (children (v.node t)) j 0) ≤ 0 =
        omega (arith, unnamed (get_or (children (v.node t)) j 0)) in
        shown_above-text v 0 (get_or (children (v.node t)) j 0)
        (body_in v f m (i + 2) (get_or (children (v.node t)) j 0)) u
        ∙ (body_in-flat f m (i + 2) (get_or (children (v.node t)) j 0) (omega arith) (omega arith) (omega arith)
        ∙ (sym (shown-of-text (line_in v.node (λ (k : ℕ). by_text) f (get_or (children (v.node t)) j 0)))
        ∙ sym
        (child_text-is (λ (k : ℕ). by_text) (line_in v.node (λ (k : ℕ). by_text) f)
        (get_or (children (v.node t)) j 0))))))

    pub piece-flat :
        (lim m i t : ℕ) → t < n → i + 2 * t ≤ 4096 → piece v lim m i t ≡ line v.node (λ (k : ℕ). by_text) t
    unfolding piece body line
    piece-flat lim m i t k l =
        shown_above-text v lim t (body v m i t) (omega (arith, unnamed t)) ∙ body_in-flat (suc t) m i t k (omega
        arith) l
