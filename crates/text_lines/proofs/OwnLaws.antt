-- The definition's text of a term is the writer's: one form, whose gap the width alone decides. Where a parent fits in
-- its line, each child fits in its own, so the second test of a break follows from the first. Assumes nothing.
use mathlib.Core.Path.{◌≡◌, refl, sym, ap, subst, ◌∙◌}
use mathlib.Core.Bool.{Bool, false}
use mathlib.Core.List.{List, [], ◌∷◌}
use Prim.{Dec, yes, no}
use Prim.Native.Nat.{ℕ, zero, suc, ◌+◌, ◌<◌, ◌≤◌}
use native.Mathlib.Omega.{arith}
use native.Mathlib.Decide.{dec_lt}
use lib.ListN.{length, get_or}
use lib.Dec.{ltb}
use borrow.Author.Tests.{lt-ltb, le-ltb}
use Rattle.term_rules.specs.Nodes.{Node, literal, variable, application}
use Rattle.text_rules.specs.Forms.{children, each, form, Called, by_name, by_text, shown, child_text, line_in, line}
use Rattle.text_rules.specs.LetText.{several, any_several, new_line, breaks, own_in, own}
use Rattle.text_rules.proofs.FormLaws.{form-same, form-longer, line_in-step, line_in-enough, child_text-is}
use Rattle.text_pieces.specs.Pieces.{capped, gap_text}
use Rattle.text_pieces.proofs.PieceLaws.{gap_text-narrow, gap_text-wide}
use Rattle.text_pieces.specs.Readable.{head_text, Inside}
use Rattle.text_write.specs.Piece.{View, shown_above, shown_in, gap_of, body_in, body}
use Rattle.text_lines.proofs.CleanLaws.{several-space, several-new_line, form-clean, form-broken, any_none}

-- a let name has no newline
abbrev pub CleanCall : Called → Type 0
CleanCall (by_name n) = several n ≡ false
CleanCall by_text = Unit

shown-clean : (c : Called) (text : List ℕ) → CleanCall c → several text ≡ false → several (shown c text) ≡ false
unfolding shown
shown-clean (by_name n) text h e = h
shown-clean by_text text h e = e

-- a child that is shown by its text is as long as that
shown-same : (c : Called) (x y : List ℕ) → (length x ≡ length (shown c x) → x ≡ y) → shown c x ≡ shown c y
unfolding shown
shown-same (by_name n) x y e = refl
shown-same by_text x y e = e refl

-- without children the gap is nowhere
gapless-form :
    (gap₁ gap₂ : List ℕ) (g : ℕ → List ℕ) (x : Node) → length (children x) ≡ 0 → form gap₁ g x ≡ form gap₂ g x
unfolding form each
gapless-form gap₁ gap₂ g (literal z) e = refl
gapless-form gap₁ gap₂ g (variable n) e = refl
gapless-form gap₁ gap₂ g (application n []) e = refl
gapless-form gap₁ gap₂ g (application n (k ∷ ks)) e = let z : ⊥ = omega arith in absurd z

module _
    (node : ℕ → Node)
    (called : ℕ → Called)
    (n : ℕ)
    (lower : (t : ℕ) → t < n → Inside t (children (node t)))
    (clean : (t : ℕ) → t < n → several (head_text (node t)) ≡ false)
    (clean_call : (k : ℕ) → CleanCall (called k))
  where
    line_in-clean : (f t : ℕ) → t < n → t < f → several (line_in node called f t) ≡ false
    line_in-clean zero t k p = let z : ⊥ = omega arith in absurd z
    line_in-clean (suc f) t k p =
        rw (line_in-step node called f t)
        (form-clean (32 ∷ []) (child_text called (line_in node called f)) (node t) (clean t k) several-space
        (λ j l.
        let h : get_or (children (node t)) j 0 < t = lower t k j l in
        rw (child_text-is called (line_in node called f) (get_or (children (node t)) j 0))
        (shown-clean (called (get_or (children (node t)) j 0)) (line_in node called f (get_or (children (node t)) j 0))
        (clean_call (get_or (children (node t)) j 0))
        (line_in-clean f (get_or (children (node t)) j 0) (omega arith) (omega arith)))))

    abbrev wide : ℕ → ℕ → ℕ
    wide f t = length (line_in node called f t)

    abbrev child_own : ℕ → ℕ → ℕ → ℕ → List ℕ
    child_own f m i = child_text called (own_in node called f m i)

    own-narrow-step :
        (f m i t : ℕ) →
        i + wide (suc f) t ≤ 80 →
        any_several (child_own f m (i + 2)) (children (node t)) ≡ false →
        own_in node called (suc f) m i t ≡ line_in node called (suc f) t
    unfolding own_in breaks
    own-narrow-step f m i t l e = rw (le-ltb 80 (i + wide (suc f) t) l, e, own_in)

    own-wide-step :
        (f m i t : ℕ) →
        80 < i + wide (suc f) t →
        own_in node called (suc f) m i t ≡ form (new_line (m + (i + 2))) (child_own f m (i + 2)) (node t)
    unfolding own_in breaks
    own-wide-step f m i t l = rw (lt-ltb 80 (i + wide (suc f) t) l, own_in)

    -- where the parent's line fits, the child's text is its line
    child-same :
        (f m i t j : ℕ) →
        i + wide (suc f) t ≤ 80 →
        j < length (children (node t)) →
        (i + 2 + wide f (get_or (children (node t)) j 0) ≤ 80 →
        own_in node called f m (i + 2) (get_or (children (node t)) j 0)
        ≡ line_in node called f (get_or (children (node t)) j 0)) →
        child_text called (line_in node called f) (get_or (children (node t)) j 0)
        ≡ child_own f m (i + 2) (get_or (children (node t)) j 0)
    child-same f m i t j l lj ih =
        let r : length (child_text called (line_in node called f) (get_or (children (node t)) j 0)) + 1
        + 2 ≤ wide (suc f) t =
        rw (line_in-step node called f t)
        (form-longer (32 ∷ []) (child_text called (line_in node called f)) (node t) j lj) in
        let c = ap length (child_text-is called (line_in node called f) (get_or (children (node t)) j 0)) in
        child_text-is called (line_in node called f) (get_or (children (node t)) j 0)
        ∙ (shown-same (called (get_or (children (node t)) j 0)) (line_in node called f (get_or (children (node t)) j
        0))
        (own_in node called f m (i + 2) (get_or (children (node t)) j 0)) (λ h. sym (ih (omega arith)))
        ∙ sym (child_text-is called (own_in node called f m (i + 2)) (get_or (children (node t)) j 0)))

    own-narrow :
        (f m i t : ℕ) → t < n → t < f → i + wide f t ≤ 80 → own_in node called f m i t ≡ line_in node called f t
    own-narrow zero m i t k p l = let z : ⊥ = omega arith in absurd z
    own-narrow (suc f) m i t k p l =
        own-narrow-step f m i t l
        (any_none (child_own f m (i + 2)) (children (node t))
        (λ j lj.
        let h : get_or (children (node t)) j 0 < t = lower t k j lj in
        subst (λ (x : List ℕ). several x ≡ false)
        (child-same f m i t j l lj
        (λ w. own-narrow f m (i + 2) (get_or (children (node t)) j 0) (omega arith) (omega arith) w))
        (rw (child_text-is called (line_in node called f) (get_or (children (node t)) j 0))
        (shown-clean (called (get_or (children (node t)) j 0)) (line_in node called f (get_or (children (node t)) j 0))
        (clean_call (get_or (children (node t)) j 0))
        (line_in-clean f (get_or (children (node t)) j 0) (omega arith) (omega arith))))))

    -- the one form
    own-form :
        (f m i t : ℕ) →
        t < n →
        t < suc f →
        own_in node called (suc f) m i t
        ≡ form (gap_text (ltb 80 (i + wide (suc f) t)) (m + (i + 2))) (child_own f m (i + 2)) (node t)
    own-form f m i t k p = by (dec_lt 80 (i + wide (suc f) t))
      where
        by :
            Dec (80 < i + wide (suc f) t) →
            own_in node called (suc f) m i t
            ≡ form (gap_text (ltb 80 (i + wide (suc f) t)) (m + (i + 2))) (child_own f m (i + 2)) (node t)
        by (yes w) =
            own-wide-step f m i t w
            ∙ ap (λ (x : List ℕ). form x (child_own f m (i + 2)) (node t))
            (sym (gap_text-wide 80 (i + wide (suc f) t) (m + (i + 2)) w))
        by (no w) =
            let l : i + wide (suc f) t ≤ 80 = omega arith in
            own-narrow (suc f) m i t k p l
            ∙ (line_in-step node called f t
            ∙ (form-same (32 ∷ []) (child_text called (line_in node called f)) (child_own f m (i + 2)) (node t)
            (λ j lj.
            let h : get_or (children (node t)) j 0 < t = lower t k j lj in
            child-same f m i t j l lj
            (λ q. own-narrow f m (i + 2) (get_or (children (node t)) j 0) (omega arith) (omega arith) q))
            ∙ ap (λ (x : List ℕ). form x (child_own f m (i + 2)) (node t))
            (sym (gap_text-narrow 80 (i + wide (suc f) t) (m + (i + 2)) l))))

    line-wide : (f t : ℕ) → t < n → t < f → wide f t ≡ length (line node called t)
    unfolding line
    line-wide f t k p = ap length (line_in-enough node called n lower f (suc t) t k p (omega arith))

    -- a text has several lines exactly if it has children and is too wide: what a binding's gap asks
    pub own-broken :
        (m i t : ℕ) →
        t < n →
        0 < length (children (node t)) →
        several (own node called m i t) ≡ ltb 80 (i + length (line node called t))
    unfolding own line
    own-broken m i t k c = by (dec_lt 80 (i + wide (suc t) t))
      where
        by :
            Dec (80 < i + wide (suc t) t) →
            several (own_in node called (suc t) m i t) ≡ ltb 80 (i + length (line_in node called (suc t) t))
        by (yes w) =
            ap several (own-wide-step t m i t w)
            ∙ (form-broken (new_line (m + (i + 2))) (child_own t m (i + 2)) (node t) c (several-new_line (m + (i + 2)))
            ∙ sym (lt-ltb 80 (i + wide (suc t) t) w))
        by (no w) =
            let l : i + wide (suc t) t ≤ 80 = omega arith in
            ap several (own-narrow (suc t) m i t k (omega arith) l)
            ∙ (line_in-clean (suc t) t k (omega arith) ∙ sym (le-ltb 80 (i + wide (suc t) t) l))

    pub own-leaf : (m i t : ℕ) → t < n → length (children (node t)) ≡ 0 → several (own node called m i t) ≡ false
    unfolding own
    own-leaf m i t k c =
        rw (own-form t m i t k (omega arith))
        (rw
        (gapless-form (gap_text (ltb 80 (i + wide (suc t) t)) (m + (i + 2))) (32 ∷ [])
        (child_own t m (i + 2)) (node t) c)
        (form-clean (32 ∷ []) (child_own t m (i + 2)) (node t) (clean t k) several-space
        (λ j l. let z : ⊥ = omega arith in absurd z)))

    -- ---- what the writer writes
    module _
        (v : View)
        (same : (t : ℕ) → v.node t ≡ node t)
        (limit : v.limit ≡ 80)
        (shows : (k : ℕ) (text : List ℕ) → k < n → shown_above v 0 k text ≡ shown (called k) text)
        (wides : (t : ℕ) → t < n → v.wide t ≡ capped (length (line node called t)))
      where
        gap_same :
            (f m i t : ℕ) →
            t < n →
            t < suc f →
            gap_text (ltb 80 (i + wide (suc f) t)) (m + (i + 2)) ≡ gap_of v m i t
        gap_same f m i t k p =
            let w : wide (suc f) t ≡ length (line node called t) = line-wide (suc f) t k p in
            let a : m + (i + 2) ≡ m + i + 2 = omega arith in
            rw (w, a, limit, wides t k)
            (ap (λ (b : Bool). gap_text b (m + i + 2)) (by (dec_lt 80 (i + length (line node called t)))))
          where
            by :
                Dec (80 < i + length (line node called t)) →
                ltb 80 (i + length (line node called t)) ≡ ltb 80 (i + capped (length (line node called t)))
            by (yes l) =
                lt-ltb 80 (i + length (line node called t)) l
                ∙ sym (lt-ltb 80 (i + capped (length (line node called t))) (omega arith))
            by (no l) =
                le-ltb 80 (i + length (line node called t)) (omega arith)
                ∙ sym (le-ltb 80 (i + capped (length (line node called t))) (omega arith))

        own_in-body : (f m i t : ℕ) → t < n → t < f → own_in node called f m i t ≡ body_in v f m i t
        unfolding body_in shown_in
        own_in-body zero m i t k p = let z : ⊥ = omega arith in absurd z
        own_in-body (suc f) m i t k p =
            own-form f m i t k p
            ∙ (ap (λ (x : List ℕ). form x (child_own f m (i + 2)) (node t)) (gap_same f m i t k p)
            ∙ (form-same (gap_of v m i t) (child_own f m (i + 2)) (shown_in v (body_in v f m (i + 2))) (node t)
            (λ j lj.
            let h : get_or (children (node t)) j 0 < t = lower t k j lj in
            child_text-is called (own_in node called f m (i + 2)) (get_or (children (node t)) j 0)
            ∙ (ap (shown (called (get_or (children (node t)) j 0)))
            (own_in-body f m (i + 2) (get_or (children (node t)) j 0) (omega arith) (omega arith))
            ∙ sym
            (shows (get_or (children (node t)) j 0)
            (body_in v f m (i + 2) (get_or (children (node t)) j 0)) (omega arith))))
            ∙ ap (form (gap_of v m i t) (shown_in v (body_in v f m (i + 2)))) (sym (same t))))

        pub own_body : (m i t : ℕ) → t < n → own node called m i t ≡ body v m i t
        unfolding own body
        own_body m i t k = own_in-body (suc t) m i t k (omega arith)
