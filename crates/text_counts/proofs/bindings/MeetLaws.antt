-- The laws of meeting terms: it does not depend on the bound of its depth, and binds nothing above a term. Assumes
-- nothing.
use mathlib.Core.Path.{◌≡◌, refl, sym, ap, subst, ◌∙◌}
use mathlib.Core.Bool.{Bool, true, false}
use mathlib.Core.List.{List, [], ◌∷◌, ◌++◌}
use Prim.Native.Nat.{ℕ, zero, suc, ◌+◌, ◌<◌}
use native.Mathlib.Omega.{arith}
use lib.ListN.{length, get_or}
use Rattle.text_rules.specs.Counts.{in_turn}
use Rattle.text_rules.specs.Bindings.{Bound, Place, nowhere, place, find, bind, meet_in}
use Rattle.text_pieces.specs.Readable.{Inside}
use Rattle.text_counts.specs.Met.{met_at}
use Rattle.text_counts.proofs.bindings.FindLaws.{one, find-other}

-- ---- in turn
pub turn_step : (g : ℕ → List Bound → List Bound) (k : ℕ) (ks : List ℕ) (bs : List Bound)
    → in_turn g (k ∷ ks) bs ≡ in_turn g ks (g k bs)
unfolding in_turn
turn_step g k ks bs = refl

pub turn-none : (g : ℕ → List Bound → List Bound) (bs : List Bound) → in_turn g [] bs ≡ bs
unfolding in_turn
turn-none g bs = refl

pub turn-same :
    (g h : ℕ → List Bound → List Bound) (ks : List ℕ) (bs : List Bound) →
    ((j : ℕ) → j < length ks → (bs : List Bound) → g (get_or ks j 0) bs ≡ h (get_or ks j 0) bs) →
    in_turn g ks bs ≡ in_turn h ks bs
turn-same g h [] bs e = turn-none g bs ∙ sym (turn-none h bs)
turn-same g h (k ∷ ks) bs e =
    turn_step g k ks bs
    ∙ (ap (in_turn g ks) (e 0 (omega arith) bs)
    ∙ (turn-same g h ks (h k bs) (λ j l. e (suc j) (omega arith)) ∙ sym (turn_step h k ks bs)))

-- what every step keeps, all keep
pub turn-keeps :
    (P : List Bound → Type 0) (g : ℕ → List Bound → List Bound) (ks : List ℕ) (bs : List Bound) →
    ((j : ℕ) → j < length ks → (bs : List Bound) → P bs → P (g (get_or ks j 0) bs)) →
    P bs →
    P (in_turn g ks bs)
turn-keeps P g [] bs e p = subst P (sym (turn-none g bs)) p
turn-keeps P g (k ∷ ks) bs e p =
    subst P (sym (turn_step g k ks bs))
    (turn-keeps P g ks (g k bs) (λ j l. e (suc j) (omega arith)) (e 0 (omega arith) bs p))

pub bind-no : (t i : ℕ) (bs : List Bound) → bind false t i bs ≡ bs
unfolding bind
bind-no t i bs = refl

pub bind-yes : (t i : ℕ) (bs : List Bound) → bind true t i bs ≡ bs ++ one t i
unfolding bind
bind-yes t i bs = refl

abbrev pub whether : Place → List Bound → List Bound → List Bound
whether (place p) bs cs = bs
whether nowhere bs cs = cs

module _ (kids : ℕ → List ℕ) (wanted : ℕ → Bool) where
  pub meet_in-step :
      (f i t : ℕ) (bs : List Bound) →
      meet_in kids wanted (suc f) i t bs
      ≡ whether (find t 0 bs) bs (bind (wanted t) t i (in_turn (meet_in kids wanted f (i + 2)) (kids t) bs))
  unfolding meet_in
  meet_in-step f i t bs = go (find t 0 bs)
    where
      go :
          (p : Place) →
          elim p [ place n ↦ bs | nowhere ↦ bind (wanted t) t i (in_turn (meet_in kids wanted f (i + 2)) (kids t) bs) ]
          ≡ whether p bs (bind (wanted t) t i (in_turn (meet_in kids wanted f (i + 2)) (kids t) bs))
      go (place n) = refl
      go nowhere = refl

  module _ (n : ℕ) (lower : (t : ℕ) → t < n → Inside t (kids t)) where
    meet_in-enough :
        (f g i t : ℕ) (bs : List Bound) →
        t < n →
        t < f →
        t < g →
        meet_in kids wanted f i t bs ≡ meet_in kids wanted g i t bs
    meet_in-enough zero g i t bs k p q = let z : ⊥ = omega arith in absurd z
    meet_in-enough (suc f) zero i t bs k p q = let z : ⊥ = omega arith in absurd z
    meet_in-enough (suc f) (suc g) i t bs k p q =
        meet_in-step f i t bs
        ∙ (ap (λ (x : List Bound). whether (find t 0 bs) bs (bind (wanted t) t i x))
        (turn-same (meet_in kids wanted f (i + 2)) (meet_in kids wanted g (i + 2)) (kids t) bs
        (λ j l cs.
        let h : get_or (kids t) j 0 < t = lower t k j l in
        meet_in-enough f g (i + 2) (get_or (kids t) j 0) cs (omega arith) (omega arith) (omega arith)))
        ∙ sym (meet_in-step g i t bs))

    met_by :
        (i t : ℕ) (bs : List Bound) →
        t < n →
        met_at kids wanted i t bs
        ≡ whether (find t 0 bs) bs (bind (wanted t) t i (in_turn (met_at kids wanted (i + 2)) (kids t) bs))
    unfolding met_at
    met_by i t bs k =
        meet_in-step t i t bs
        ∙ ap (λ (x : List Bound). whether (find t 0 bs) bs (bind (wanted t) t i x))
        (turn-same (meet_in kids wanted t (i + 2)) (met_at kids wanted (i + 2)) (kids t) bs
        (λ j l cs.
        let h : get_or (kids t) j 0 < t = lower t k j l in
        meet_in-enough t (suc (get_or (kids t) j 0)) (i + 2) (get_or (kids t) j 0) cs (omega arith) h (omega arith)))

    pub met-old :
        (i t : ℕ) (bs : List Bound) (p : ℕ) → t < n → find t 0 bs ≡ place p → met_at kids wanted i t bs ≡ bs
    met-old i t bs p k e = met_by i t bs k ∙ rw e

    pub met-new :
        (i t : ℕ) (bs : List Bound) →
        t < n →
        find t 0 bs ≡ nowhere →
        met_at kids wanted i t bs ≡ bind (wanted t) t i (in_turn (met_at kids wanted (i + 2)) (kids t) bs)
    met-new i t bs k e = met_by i t bs k ∙ rw e

    bind-above :
        (b : Bool) (u t i : ℕ) (bs : List Bound) → t < u → find u 0 bs ≡ nowhere → find u 0 (bind b t i bs) ≡ nowhere
    bind-above true u t i bs l e =
        ap (find u 0) (bind-yes t i bs) ∙ (find-other u t i 0 bs (λ (q : t ≡ u). omega arith) ∙ e)
    bind-above false u t i bs l e = ap (find u 0) (bind-no t i bs) ∙ e

    above-by :
        (f u i t : ℕ) (bs : List Bound) →
        t < u →
        find u 0 bs ≡ nowhere →
        find u 0 (in_turn (meet_in kids wanted f (i + 2)) (kids t) bs) ≡ nowhere →
        (q : Place) →
        find u 0 (whether q bs (bind (wanted t) t i (in_turn (meet_in kids wanted f (i + 2)) (kids t) bs))) ≡ nowhere
    above-by f u i t bs l e h (place x) = e
    above-by f u i t bs l e h nowhere =
        bind-above (wanted t) u t i (in_turn (meet_in kids wanted f (i + 2)) (kids t) bs) l h

    meet_in-above :
        (f u i t : ℕ) (bs : List Bound) →
        t < n →
        t < f →
        t < u →
        find u 0 bs ≡ nowhere →
        find u 0 (meet_in kids wanted f i t bs) ≡ nowhere
    meet_in-above zero u i t bs k p l e = let z : ⊥ = omega arith in absurd z
    meet_in-above (suc f) u i t bs k p l e =
        subst (λ (x : List Bound). find u 0 x ≡ nowhere) (sym (meet_in-step f i t bs))
        (above-by f u i t bs l e
        (turn-keeps (λ (x : List Bound). find u 0 x ≡ nowhere) (meet_in kids wanted f (i + 2)) (kids t) bs
        (λ j lj cs ec.
        let h : get_or (kids t) j 0 < t = lower t k j lj in
        meet_in-above f u (i + 2) (get_or (kids t) j 0) cs (omega arith) (omega arith) (omega arith) ec) e)
        (find t 0 bs))

    -- meeting t binds nothing above t
    pub met-above :
        (u i t : ℕ) (bs : List Bound) →
        t < n →
        t < u →
        find u 0 bs ≡ nowhere →
        find u 0 (met_at kids wanted i t bs) ≡ nowhere
    unfolding met_at
    met-above u i t bs k l e = meet_in-above (suc t) u i t bs k (omega arith) l e

-- two tests that agree below n give the same bindings
pub meet_in-wanted :
    (kids : ℕ → List ℕ) (v w : ℕ → Bool) (n : ℕ) →
    ((t : ℕ) → t < n → Inside t (kids t)) →
    ((t : ℕ) → t < n → v t ≡ w t) →
    (f i t : ℕ) (bs : List Bound) →
    t < n →
    meet_in kids v f i t bs ≡ meet_in kids w f i t bs
unfolding meet_in
meet_in-wanted kids v w n lower e zero i t bs k = refl
meet_in-wanted kids v w n lower e (suc f) i t bs k =
    meet_in-step kids v f i t bs
    ∙ (ap
    (λ (b : Bool). whether (find t 0 bs) bs (bind b t i (in_turn (meet_in kids v f (i + 2)) (kids t) bs))) (e t k)
    ∙ (ap (λ (x : List Bound). whether (find t 0 bs) bs (bind (w t) t i x))
    (turn-same (meet_in kids v f (i + 2)) (meet_in kids w f (i + 2)) (kids t) bs
    (λ j l cs.
    let h : get_or (kids t) j 0 < t = lower t k j l in
    meet_in-wanted kids v w n lower e f (i + 2) (get_or (kids t) j 0) cs (omega arith)))
    ∙ sym (meet_in-step kids w f i t bs)))
