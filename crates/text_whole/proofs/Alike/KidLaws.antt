-- Counts, sizes and bindings go by the terms, not by their numbers. Assumes nothing.
use mathlib.Core.Path.{◌≡◌, refl, ap, subst, ◌∙◌}
use mathlib.Core.Bool.{Bool, true, false}
use mathlib.Core.List.{List, [], ◌∷◌, ◌++◌}
use Prim.Native.Nat.{ℕ, zero, suc, ◌+◌, ◌<◌}
use native.Mathlib.Omega.{arith}
use lib.ListN.{length, get_or}
use lib.Dec.{eqb}
use Rattle.text_rules.specs.Counts.{
  in_turn,
  member,
  reach_in,
  reached,
  places,
  places_in,
  count,
  sum_of,
  size_in,
  size,
}
use Rattle.text_rules.specs.Bindings.{Bound, Place, nowhere, place, find, to_bind, bind, meet_in, bindings}
use Rattle.text_whole.specs.Alike.{Both, Lower, Once, AlikeKids, SameBound}

-- ---- two lists
pub both-map :
    {A : Type 0} (P Q : A → A → Type 0) →
    ((x y : A) → P x y → Q x y) →
    (xs ys : List A) →
    Both P xs ys →
    Both Q xs ys
unfolding Both
both-map P Q h [] [] b = tt
both-map P Q h [] (y ∷ ys) b = absurd b
both-map P Q h (x ∷ xs) [] b = absurd b
both-map P Q h (x ∷ xs) (y ∷ ys) b = (h x y b.0, both-map P Q h xs ys b.1)

pub both-none : {A : Type 0} (P : A → A → Type 0) → Both P [] []
unfolding Both
both-none P = tt

pub both-more :
    {A : Type 0} (P : A → A → Type 0) (xs ys : List A) (x y : A) →
    Both P xs ys →
    P x y →
    Both P (xs ++ (x ∷ [])) (ys ++ (y ∷ []))
unfolding Both
both-more P [] [] x y b p = (p, tt)
both-more P [] (v ∷ ys) x y b p = absurd b
both-more P (u ∷ xs) [] x y b p = absurd b
both-more P (u ∷ xs) (v ∷ ys) x y b p = (b.0, both-more P xs ys x y b.1 p)

pub both-length : {A : Type 0} (P : A → A → Type 0) (xs ys : List A) → Both P xs ys → length xs ≡ length ys
unfolding Both
both-length P [] [] b = refl
both-length P [] (y ∷ ys) b = absurd b
both-length P (x ∷ xs) [] b = absurd b
both-length P (x ∷ xs) (y ∷ ys) b = ap suc (both-length P xs ys b.1)

pub both-same :
    {A : Type 0} (P : A → A → Type 0) →
    ((x y : A) → P x y → x ≡ y) →
    (xs ys : List A) →
    Both P xs ys →
    xs ≡ ys
unfolding Both
both-same P h [] [] b = refl
both-same P h [] (y ∷ ys) b = absurd b
both-same P h (x ∷ xs) [] b = absurd b
both-same P h (x ∷ xs) (y ∷ ys) b =
    let d : x ≡ y = h x y b.0 in
    let e : xs ≡ ys = both-same P h xs ys b.1 in
    ap (λ u. u ∷ xs) d ∙ ap (λ us. y ∷ us) e

-- steps that keep two states related, over two lists
pub turn-both :
    {A : Type 0} (P : A → A → Type 0) (Q : ℕ → ℕ → Type 0) (step step' : ℕ → A → A) →
    ((k l : ℕ) → Q k l → (a b : A) → P a b → P (step k a) (step' l b)) →
    (ks ls : List ℕ) →
    Both Q ks ls →
    (a b : A) →
    P a b →
    P (in_turn step ks a) (in_turn step' ls b)
unfolding Both in_turn
turn-both P Q step step' h [] [] q a b p = p
turn-both P Q step step' h [] (l ∷ ls) q a b p = absurd q
turn-both P Q step step' h (k ∷ ks) [] q a b p = absurd q
turn-both P Q step step' h (k ∷ ks) (l ∷ ls) q a b p =
    turn-both P Q step step' h ks ls q.1 (step k a) (step' l b) (h k l q.0 a b p)

pub sum_both :
    (Q : ℕ → ℕ → Type 0) (g g' : ℕ → ℕ) →
    ((k l : ℕ) → Q k l → g k ≡ g' l) →
    (ks ls : List ℕ) →
    Both Q ks ls →
    sum_of g ks ≡ sum_of g' ls
unfolding Both sum_of
sum_both Q g g' h [] [] b = refl
sum_both Q g g' h [] (l ∷ ls) b = absurd b
sum_both Q g g' h (k ∷ ks) [] b = absurd b
sum_both Q g g' h (k ∷ ks) (l ∷ ls) b = rw (h k l b.0, sum_both Q g g' h ks ls b.1)

-- ---- tests
abbrev pub pick : {A : Type 0} → Bool → A → A → A
pick true a b = a
pick false a b = b

pub pick-both :
    {A : Type 0} (P : A → A → Type 0) (c c' : Bool) (a b a' b' : A) →
    c ≡ c' →
    P a a' →
    P b b' →
    P (pick c a b) (pick c' a' b')
pick-both P true true a b a' b' e p q = p
pick-both P true false a b a' b' e p q = let z : ◌≡◌ {A = ℕ} 0 1 = cc in absurd (omega arith)
pick-both P false true a b a' b' e p q = let z : ◌≡◌ {A = ℕ} 0 1 = cc in absurd (omega arith)
pick-both P false false a b a' b' e p q = q

find-step :
    (t n : ℕ) (b : Bound) (bs : List Bound) →
    find t n (b ∷ bs) ≡ pick (eqb b.term t) (place n) (find t (n + 1) bs)
unfolding find
find-step t n b bs = go (eqb b.term t)
  where
    go : (c : Bool) → elim c [ true ↦ place n | false ↦ find t (n + 1) bs ] ≡ pick c (place n) (find t (n + 1) bs)
    go true = refl
    go false = refl

module _ (R : ℕ → ℕ → Type 0) (once : Once R) (t t' : ℕ) (r : R t t') where
  member-both : (us vs : List ℕ) → Both R us vs → member t us ≡ member t' vs
  unfolding Both member
  member-both [] [] b = refl
  member-both [] (v ∷ vs) b = absurd b
  member-both (u ∷ us) [] b = absurd b
  member-both (u ∷ us) (v ∷ vs) b = rw (once u v t t' b.0 r, member-both us vs b.1)

  pub places-both : (ks ls : List ℕ) → Both R ks ls → places t ks ≡ places t' ls
  unfolding Both places
  places-both [] [] b = refl
  places-both [] (l ∷ ls) b = absurd b
  places-both (k ∷ ks) [] b = absurd b
  places-both (k ∷ ks) (l ∷ ls) b = rw (once k l t t' b.0 r, places-both ks ls b.1)

  pub find-both : (n : ℕ) (bs cs : List Bound) → Both (SameBound R) bs cs → find t n bs ≡ find t' n cs
  unfolding Both find
  find-both n [] [] b = refl
  find-both n [] (y ∷ cs) b = absurd b
  find-both n (x ∷ bs) [] b = absurd b
  find-both n (x ∷ bs) (y ∷ cs) b =
      rw (find-step t n x bs, find-step t' n y cs)
      (pick-both (λ (p q : Place). p ≡ q) (eqb x.term t) (eqb y.term t') (place n) (find t (n + 1) bs) (place n)
      (find t' (n + 1) cs) (once x.term y.term t t' b.0.term r) refl (find-both (n + 1) bs cs b.1))

-- ---- steps
reach_step :
    (kids : ℕ → List ℕ) (f t : ℕ) (before : List ℕ) →
    reach_in kids (suc f) t before
    ≡ pick (member t before) before (in_turn (reach_in kids f) (kids t) before ++ (t ∷ []))
unfolding reach_in
reach_step kids f t before = go (member t before)
  where
    go :
        (c : Bool) →
        elim c [ true ↦ before | false ↦ in_turn (reach_in kids f) (kids t) before ++ (t ∷ []) ]
        ≡ pick c before (in_turn (reach_in kids f) (kids t) before ++ (t ∷ []))
    go true = refl
    go false = refl

abbrev unless : Place → List Bound → List Bound → List Bound
unless (place p) bs cs = bs
unless nowhere bs cs = cs

meet-step :
    (kids : ℕ → List ℕ) (wanted : ℕ → Bool) (f i t : ℕ) (bs : List Bound) →
    meet_in kids wanted (suc f) i t bs
    ≡ unless (find t 0 bs) bs (bind (wanted t) t i (in_turn (meet_in kids wanted f (i + 2)) (kids t) bs))
unfolding meet_in
meet-step kids wanted f i t bs = go (find t 0 bs)
  where
    go :
        (p : Place) →
        elim p [ place n ↦ bs | nowhere ↦ bind (wanted t) t i (in_turn (meet_in kids wanted f (i + 2)) (kids t) bs) ]
        ≡ unless p bs (bind (wanted t) t i (in_turn (meet_in kids wanted f (i + 2)) (kids t) bs))
    go (place n) = refl
    go nowhere = refl

unless-both :
    (P : List Bound → List Bound → Type 0) (c c' : Place) (a b a' b' : List Bound) →
    c ≡ c' →
    P a a' →
    P b b' →
    P (unless c a b) (unless c' a' b')
unless-both P (place m) (place n) a b a' b' e p q = p
unless-both P (place m) nowhere a b a' b' e p q = let z : ◌≡◌ {A = ℕ} 0 1 = cc in absurd (omega arith)
unless-both P nowhere (place n) a b a' b' e p q = let z : ◌≡◌ {A = ℕ} 0 1 = cc in absurd (omega arith)
unless-both P nowhere nowhere a b a' b' e p q = q

-- ---- what is reached from a term, with its counts and sizes
module _ (kids kids' : ℕ → List ℕ) (R : ℕ → ℕ → Type 0) (w : AlikeKids kids kids' R) where
  pub kin : (i j : ℕ) → R i j → Both R (kids i) (kids' j)
  kin i j r = both-map (Lower R i j) R (λ k l b. b.same) (kids i) (kids' j) (w.kin i j r)

  reach-both :
      (f g t u : ℕ) →
      R t u →
      t < f →
      u < g →
      (a b : List ℕ) →
      Both R a b →
      Both R (reach_in kids f t a) (reach_in kids' g u b)
  reach-both zero g t u r l m a b p = let z : ⊥ = omega arith in absurd z
  reach-both (suc f) zero t u r l m a b p = let z : ⊥ = omega arith in absurd z
  reach-both (suc f) (suc g) t u r l m a b p =
      rw (reach_step kids f t a, reach_step kids' g u b)
      (pick-both (Both R) (member t a) (member u b) a _ b _ (member-both R w.once t u r a b p) p
      (both-more R (in_turn (reach_in kids f) (kids t) a) (in_turn (reach_in kids' g) (kids' u) b) t u
      (turn-both (Both R) (Lower R t u) (reach_in kids f) (reach_in kids' g)
      (λ k v h. reach-both f g k v h.same (omega (arith, h.left)) (omega (arith, h.right))) (kids t) (kids' u)
      (w.kin t u r) a b p) r))

  reached-both : (t u : ℕ) → R t u → Both R (reached kids t) (reached kids' u)
  unfolding reached
  reached-both t u r = reach-both (suc t) (suc u) t u r (omega arith) (omega arith) [] [] (both-none R)

  places_in-both :
      (t u : ℕ) → R t u → (us vs : List ℕ) → Both R us vs → places_in kids t us ≡ places_in kids' u vs
  unfolding Both places_in
  places_in-both t u r [] [] b = refl
  places_in-both t u r [] (y ∷ vs) b = absurd b
  places_in-both t u r (x ∷ us) [] b = absurd b
  places_in-both t u r (x ∷ us) (y ∷ vs) b =
      rw (places-both R w.once t u r (kids x) (kids' y) (kin x y b.0), places_in-both t u r us vs b.1)

  one-both : (t u : ℕ) → R t u → Both R (t ∷ []) (u ∷ [])
  one-both t u r = both-more R [] [] t u (both-none R) r

  count-both : (i j t u : ℕ) → R i j → R t u → count kids i t ≡ count kids' j u
  unfolding count
  count-both i j t u p r =
      rw (
        places_in-both t u r (reached kids i) (reached kids' j) (reached-both i j p),
        places-both R w.once t u r (i ∷ []) (j ∷ []) (one-both i j p),
      )

  size_in-both : (f g t u : ℕ) → R t u → t < f → u < g → size_in kids f t ≡ size_in kids' g u
  unfolding size_in
  size_in-both zero g t u r l m = let z : ⊥ = omega arith in absurd z
  size_in-both (suc f) zero t u r l m = let z : ⊥ = omega arith in absurd z
  size_in-both (suc f) (suc g) t u r l m =
      ap (λ (n : ℕ). 1 + n)
      (sum_both (Lower R t u) (size_in kids f) (size_in kids' g)
      (λ k v h. size_in-both f g k v h.same (omega (arith, h.left)) (omega (arith, h.right))) (kids t) (kids' u)
      (w.kin t u r))

  size-both : (t u : ℕ) → R t u → size kids t ≡ size kids' u
  unfolding size
  size-both t u r = size_in-both (suc t) (suc u) t u r (omega arith) (omega arith)

  to_bind-both : (i j t u : ℕ) → R i j → R t u → to_bind kids i t ≡ to_bind kids' j u
  unfolding to_bind
  to_bind-both i j t u p r = rw (count-both i j t u p r, size-both t u r)

  -- ---- the bindings
  bind-both :
      (c d : Bool) (t u i : ℕ) (bs cs : List Bound) →
      c ≡ d →
      R t u →
      Both (SameBound R) bs cs →
      Both (SameBound R) (bind c t i bs) (bind d u i cs)
  unfolding bind
  bind-both true true t u i bs cs e r b =
      both-more (SameBound R) bs cs (record { term = t; indent = i }) (record { term = u; indent = i }) b
      (record { term = r; indent = refl })
  bind-both true false t u i bs cs e r b = let z : ◌≡◌ {A = ℕ} 0 1 = cc in absurd (omega arith)
  bind-both false true t u i bs cs e r b = let z : ◌≡◌ {A = ℕ} 0 1 = cc in absurd (omega arith)
  bind-both false false t u i bs cs e r b = b

  module _ (wanted wanted' : ℕ → Bool) (same : (t u : ℕ) → R t u → wanted t ≡ wanted' u) where
    meet-both :
        (f g i t u : ℕ) →
        R t u →
        t < f →
        u < g →
        (a b : List Bound) →
        Both (SameBound R) a b →
        Both (SameBound R) (meet_in kids wanted f i t a) (meet_in kids' wanted' g i u b)
    meet-both zero g i t u r l m a b p = let z : ⊥ = omega arith in absurd z
    meet-both (suc f) zero i t u r l m a b p = let z : ⊥ = omega arith in absurd z
    meet-both (suc f) (suc g) i t u r l m a b p =
        rw (meet-step kids wanted f i t a, meet-step kids' wanted' g i u b)
        (unless-both (Both (SameBound R)) (find t 0 a) (find u 0 b) a _ b _ (find-both R w.once t u r 0 a b p) p
        (bind-both (wanted t) (wanted' u) t u i (in_turn (meet_in kids wanted f (i + 2)) (kids t) a)
        (in_turn (meet_in kids' wanted' g (i + 2)) (kids' u) b) (same t u r) r
        (turn-both (Both (SameBound R)) (Lower R t u) (meet_in kids wanted f (i + 2)) (meet_in kids' wanted' g (i + 2))
        (λ k v h. meet-both f g (i + 2) k v h.same (omega (arith, h.left)) (omega (arith, h.right))) (kids t)
        (kids' u) (w.kin t u r) a b p)))

  pub bindings-both : (t u : ℕ) → R t u → Both (SameBound R) (bindings kids t) (bindings kids' u)
  unfolding bindings
  bindings-both t u r =
      turn-both (Both (SameBound R)) (Lower R t u) (meet_in kids (to_bind kids t) t 2) (meet_in kids' (to_bind kids'
      u) u 2)
      (λ k v h.
      meet-both (to_bind kids t) (to_bind kids' u) (λ x y q. to_bind-both t u x y r q) t u 2 k v h.same h.left
      h.right) (kids t) (kids' u) (w.kin t u r) [] [] (both-none (SameBound R))

-- ---- one numbering, with children that agree below n
both-self :
    (P : ℕ → ℕ → Type 0) (xs : List ℕ) →
    ((j : ℕ) → j < length xs → P (get_or xs j 0) (get_or xs j 0)) →
    Both P xs xs
unfolding Both
both-self P [] h = tt
both-self P (x ∷ xs) h = (h 0 (omega arith), both-self P xs (λ j l. h (suc j) (omega arith)))

module _
    (kids kids' : ℕ → List ℕ)
    (n : ℕ)
    (agree : (t : ℕ) → t < n → kids t ≡ kids' t)
    (lower : (t : ℕ) → t < n → (j : ℕ) → j < length (kids t) → get_or (kids t) j 0 < t)
  where
    abbrev Below : ℕ → ℕ → Type 0
    Below i j = (i ≡ j) × (i < n)

    below-kin : (i : ℕ) → i < n → Both (Lower Below i i) (kids i) (kids' i)
    below-kin i l =
        subst (Both (Lower Below i i) (kids i)) (agree i l)
        (both-self (Lower Below i i) (kids i)
        (λ j h.
        let k : get_or (kids i) j 0 < i = lower i l j h in
        record { same = (refl, omega arith); left = k; right = k }))

    below_alike : AlikeKids kids kids' Below
    below_alike = record {
      kin = λ i j r. subst (λ (x : ℕ). Both (Lower Below i x) (kids i) (kids' x)) r.0 (below-kin i r.1);
      once = λ i j k l p q. rw (p.0, q.0);
    }

    bound-same : (b c : Bound) → SameBound Below b c → b ≡ c
    bound-same b c e = ap (λ (t : ℕ). record { term = t; indent = b.indent }) e.term.0
        ∙ ap (λ (i : ℕ). record { term = c.term; indent = i }) e.indent

    pub bindings-same : (t : ℕ) → t < n → bindings kids t ≡ bindings kids' t
    bindings-same t l =
        both-same (SameBound Below) bound-same (bindings kids t) (bindings kids' t)
        (bindings-both kids kids' Below below_alike t t (refl, l))
