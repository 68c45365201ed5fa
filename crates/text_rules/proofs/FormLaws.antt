-- The laws of forms: children in a row, and the form by its head. Assumes nothing.
use mathlib.Core.Path.{◌≡◌, refl, sym, ap, ◌∙◌}
use mathlib.Core.List.{List, [], ◌∷◌, ◌++◌, append_assoc, append-nil}
use Prim.Native.Nat.{ℕ, zero, suc, ◌+◌, ◌<◌, ◌≤◌}
use native.Mathlib.Omega.{arith}
use native.Mathlib.Numerals.{add-one}
use lib.ListN.{length, take, drop, get_or, length-append, take-append-drop}
use lib.Seq.{take-suc, split_at}
use Rattle.term_rules.specs.Nodes.{Node, literal, variable, application}
use Rattle.text_rules.specs.Forms.{children, each, form, Called, shown, child_text, line_in, line}

module _ (gap : List ℕ) (text : ℕ → List ℕ) where
  pub each_none : each gap text [] ≡ []
  unfolding each
  each_none = refl

  pub each_step : (k : ℕ) (ks : List ℕ) → each gap text (k ∷ ks) ≡ gap ++ (text k ++ each gap text ks)
  unfolding each
  each_step k ks = refl

  pub each_append : (xs ys : List ℕ) → each gap text (xs ++ ys) ≡ each gap text xs ++ each gap text ys
  each_append [] ys = rw each_none
  each_append (x ∷ xs) ys = rw (each_step x (xs ++ ys), each_step x xs, each_append xs ys, append_assoc, append_assoc)

  module _ (ks : List ℕ) (j : ℕ) where
    pub each_more :
        j < length ks →
        each gap text (take (j + 1) ks) ≡ (each gap text (take j ks) ++ gap) ++ text (get_or ks j 0)
    each_more l =
        rw (
          add-one,
          take-suc ks j 0 l,
          each_append (take j ks) (get_or ks j 0 ∷ []),
          each_step (get_or ks j 0) [],
          each_none,
          append-nil,
          append_assoc,
        )

    -- what is written up to child j, and with it, is no longer than the whole
    pub each-room :
        j < length ks →
        length (each gap text (take j ks)) + length gap + length (text (get_or ks j 0)) ≤ length (each gap text ks)
    each-room l =
        let s : ks ≡ take j ks ++ (get_or ks j 0 ∷ drop (suc j) ks) = split_at ks j 0 l in
        let e : each gap text ks
        ≡ each gap text (take j ks) ++ (gap ++ (text (get_or ks j 0) ++ each gap text (drop (suc j) ks))) =
        ap (each gap text) s
        ∙ (each_append (take j ks) (get_or ks j 0 ∷ drop (suc j) ks)
        ∙ rw (each_step (get_or ks j 0) (drop (suc j) ks))) in
        let n = ap length e in
        omega (arith, simp length-append at n)

    pub each_part : length (each gap text (take j ks)) ≤ length (each gap text ks)
    each_part =
        let e : each gap text ks ≡ each gap text (take j ks) ++ each gap text (drop j ks) =
        ap (each gap text) (sym (take-append-drop j ks)) ∙ each_append (take j ks) (drop j ks) in
        omega (arith, ap length e, length-append (each gap text (take j ks)) (each gap text (drop j ks)))

pub each_same :
    (gap : List ℕ) (g h : ℕ → List ℕ) (ks : List ℕ) →
    ((j : ℕ) → j < length ks → g (get_or ks j 0) ≡ h (get_or ks j 0)) →
    each gap g ks ≡ each gap h ks
unfolding each
each_same gap g h [] e = refl
each_same gap g h (k ∷ ks) e = rw (e 0 (omega arith), each_same gap g h ks (λ j l. e (suc j) (omega arith)))

pub form-same :
    (gap : List ℕ) (g h : ℕ → List ℕ) (x : Node) →
    ((j : ℕ) → j < length (children x) → g (get_or (children x) j 0) ≡ h (get_or (children x) j 0)) →
    form gap g x ≡ form gap h x
unfolding form
form-same gap g h (literal z) e = refl
form-same gap g h (variable n) e = refl
form-same gap g h (application n ks) e =
    ap (λ (r : List ℕ). 40 ∷ (n ++ (r ++ (41 ∷ [])))) (each_same gap g h ks e)

pub form-of-application :
    (gap : List ℕ) (g : ℕ → List ℕ) (n ks : List ℕ) →
    form gap g (application n ks) ≡ 40 ∷ (n ++ (each gap g ks ++ (41 ∷ [])))
unfolding form
form-of-application gap g n ks = refl

-- an application's form is longer than a child's text, its gap and two brackets
pub form-longer :
    (gap : List ℕ) (g : ℕ → List ℕ) (x : Node) (j : ℕ) →
    j < length (children x) →
    length (g (get_or (children x) j 0)) + length gap + 2 ≤ length (form gap g x)
form-longer gap g (literal z) j l = let z : ⊥ = omega arith in absurd z
form-longer gap g (variable n) j l = let z : ⊥ = omega arith in absurd z
form-longer gap g (application n ks) j l =
    rw (form-of-application gap g n ks)
    (let r = each-room gap g ks j l in
    omega
    (arith, length-append n (each gap g ks ++ (41 ∷ [])), length-append (each gap g ks) (41 ∷ [])))

pub line_in-step :
    (node : ℕ → Node) (called : ℕ → Called) (f t : ℕ) →
    line_in node called (suc f) t ≡ form (32 ∷ []) (child_text called (line_in node called f)) (node t)
unfolding line_in
line_in-step node called f t = refl

pub child_text-is :
    (called : ℕ → Called) (text : ℕ → List ℕ) (k : ℕ) → child_text called text k ≡ shown (called k) (text k)
unfolding child_text
child_text-is called text k = refl

pub child_text-same :
    (called : ℕ → Called) (g h : ℕ → List ℕ) (k : ℕ) → g k ≡ h k → child_text called g k ≡ child_text called h k
child_text-same called g h k e =
    child_text-is called g k ∙ (ap (shown (called k)) e ∙ sym (child_text-is called h k))

-- any bound above t gives the same line, where children are lower
module _
    (node : ℕ → Node)
    (called : ℕ → Called)
    (n : ℕ)
    (lower : (t : ℕ) → t < n → (j : ℕ) → j < length (children (node t)) → get_or (children (node t)) j 0 < t)
  where
    pub line_in-enough : (f g t : ℕ) → t < n → t < f → t < g → line_in node called f t ≡ line_in node called g t
    line_in-enough zero g t k p q = let z : ⊥ = omega arith in absurd z
    line_in-enough (suc f) zero t k p q = let z : ⊥ = omega arith in absurd z
    line_in-enough (suc f) (suc g) t k p q =
        line_in-step node called f t
        ∙ (form-same (32 ∷ []) (child_text called (line_in node called f))
        (child_text called (line_in node called g)) (node t)
        (λ j l.
        let h : get_or (children (node t)) j 0 < t = lower t k j l in
        child_text-same called (line_in node called f) (line_in node called g) (get_or (children (node t)) j 0)
        (line_in-enough f g (get_or (children (node t)) j 0) (omega arith) (omega arith) (omega arith)))
        ∙ sym (line_in-step node called g t))

    pub line_step : (t : ℕ) → t < n
        → line node called t ≡ form (32 ∷ []) (child_text called (line node called)) (node t)
    unfolding line
    line_step t k =
        line_in-step node called t t
        ∙ form-same (32 ∷ []) (child_text called (line_in node called t)) (child_text called (line node called)) (node t)
        (λ j l.
        let h : get_or (children (node t)) j 0 < t = lower t k j l in
        child_text-same called (line_in node called t) (line node called) (get_or (children (node t)) j 0)
        (line_in-enough t (suc (get_or (children (node t)) j 0)) (get_or (children (node t)) j 0) (omega arith) h
        (omega arith)))
