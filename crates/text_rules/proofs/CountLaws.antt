-- The laws of counts: which terms are reached, and a count as a sum from the highest term down. Assumes nothing.
use mathlib.Core.Path.{◌≡◌, refl, sym, ap, subst, ◌∙◌}
use mathlib.Core.Bool.{Bool, true, false}
use mathlib.Core.List.{List, [], ◌∷◌, ◌++◌}
use mathlib.Core.Logic.{◌⊎◌, inl, inr}
use Prim.{Dec, yes, no}
use Prim.Native.Nat.{ℕ, zero, suc, ◌+◌, ◌<◌, ◌≤◌}
use native.Mathlib.Omega.{arith}
use native.Mathlib.Decide.{ℕ_discrete, dec_lt}
use lib.ListN.{length, get_or}
use lib.Dec.{leb}
use borrow.Author.Tests.{eq-eqb, ne_eqb, le-leb, lt-leb}
use Rattle.text_rules.specs.Counts.{in_turn, member, reach_in, reached, places, places_in, count}

-- ---- places
pub places-here : (t k : ℕ) (ks : List ℕ) → k ≡ t → places t (k ∷ ks) ≡ 1 + places t ks
unfolding places
places-here t k ks e = rw (eq-eqb k t e, places)

pub places-other : (t k : ℕ) (ks : List ℕ) → (k ≡ t → ⊥) → places t (k ∷ ks) ≡ places t ks
unfolding places
places-other t k ks e = rw (ne_eqb k t e, places) (omega arith)

pub places-none : (t : ℕ) → places t [] ≡ 0
unfolding places
places-none t = refl

pub places-cons : (t k : ℕ) (ks : List ℕ) → places t (k ∷ ks) ≡ places t (k ∷ []) + places t ks
unfolding places
places-cons t k ks = omega arith

pub places-one : (t k : ℕ) → places t (k ∷ []) ≤ 1
places-one t k = by (ℕ_discrete k t)
  where
    by : Dec (k ≡ t) → places t (k ∷ []) ≤ 1
    by (yes e) = omega (arith, places-here t k [] e, places-none t)
    by (no e) = omega (arith, places-other t k [] e, places-none t)

pub places-append : (t : ℕ) (a b : List ℕ) → places t (a ++ b) ≡ places t a + places t b
places-append t [] b = omega (arith, places-none t)
places-append t (k ∷ a) b = omega (arith, places-cons t k (a ++ b), places-cons t k a, places-append t a b)

pub places-length : (t : ℕ) (ks : List ℕ) → places t ks ≤ length ks
places-length t [] = omega (arith, places-none t)
places-length t (k ∷ ks) = omega (arith, places-cons t k ks, places-one t k, places-length t ks)

pub places-get : (ks : List ℕ) (j : ℕ) → j < length ks → 0 < places (get_or ks j 0) ks
places-get [] j l = let z : ⊥ = omega arith in absurd z
places-get (k ∷ ks) zero l = omega (arith, places-here k k ks refl)
places-get (k ∷ ks) (suc j) l = omega (arith, places-cons (get_or ks j 0) k ks, places-get ks j (omega arith))

record Found (t : ℕ) (ks : List ℕ) : Type 0 where
  at : ℕ
  inside : at < length ks
  is : get_or ks at 0 ≡ t

places-found : (t : ℕ) (ks : List ℕ) → 0 < places t ks → Found t ks
places-found t [] l = let z : ⊥ = omega (arith, places-none t) in absurd z
places-found t (k ∷ ks) l = by (places-found t ks) (ℕ_discrete k t)
  where
    by : (0 < places t ks → Found t ks) → Dec (k ≡ t) → Found t (k ∷ ks)
    by ih (yes e) = record { at = 0; inside = omega arith; is = e }
    by ih (no e) =
        let f = ih (omega (arith, places-other t k ks e)) in
        record { at = suc f.at; inside = omega (arith, f.inside); is = f.is }

-- all places of numbers below n name numbers below n
pub places-above : (n t : ℕ) (ks : List ℕ) → ((j : ℕ) → j < length ks → get_or ks j 0 < n) → n ≤ t → places t ks ≡ 0
places-above n t ks low l = by (dec_lt 0 (places t ks))
  where
    by : Dec (0 < places t ks) → places t ks ≡ 0
    by (yes p) =
        let f = places-found t ks p in
        let h : get_or ks f.at 0 < n = low f.at f.inside in
        let z : ⊥ = omega (arith, f.is) in absurd z
    by (no p) = omega arith

abbrev Tells : ℕ → List ℕ → Type 0
Tells t us = (member t us ≡ true → 0 < places t us) × (member t us ≡ false → places t us ≡ 0)

member-tells : (t : ℕ) (us : List ℕ) → Tells t us
unfolding member
member-tells t [] = ((λ e. let z : ◌≡◌ {A = ℕ} 0 1 = cc in absurd (omega arith)), (λ e. places-none t))
member-tells t (u ∷ us) = by (member-tells t us) (ℕ_discrete u t)
  where
    by : Tells t us → Dec (u ≡ t) → Tells t (u ∷ us)
    by r (yes e) = (
      (λ q. omega (arith, places-here t u us e)),
      (λ q. let w : true ≡ false = rw (eq-eqb u t e) at q in let z : ◌≡◌ {A = ℕ} 0 1 = cc in absurd (omega arith)),
    )
    by r (no e) = (
      (λ q. omega (arith, places-other t u us e, r.0 (rw (ne_eqb u t e) at q))),
      (λ q. omega (arith, places-other t u us e, r.1 (rw (ne_eqb u t e) at q))),
    )

-- ---- reaching
module _ (kids : ℕ → List ℕ) where
  -- some term of us names t
  pub record Parent (t : ℕ) (us : List ℕ) : Type 0 where
    pub parent : ℕ
    pub is_in : 0 < places parent us
    pub names : 0 < places t (kids parent)

  abbrev Closed : List ℕ → Type 0
  Closed us = (u : ℕ) → 0 < places u us → (j : ℕ) → j < length (kids u) → 0 < places (get_or (kids u) j 0) us

  abbrev Once : List ℕ → Type 0
  Once us = (u : ℕ) → places u us ≤ 1

  -- what is reached after, where the terms that `start` allows are reached in turn; none of them is n or more
  record Grown (start : ℕ → Type 0) (n : ℕ) (before after : List ℕ) : Type 0 where
    grows : (x : ℕ) → places x before ≤ places x after
    closed : Closed before → Closed after
    once : Once before → Once after
    low : (x : ℕ) → n ≤ x → places x after ≡ places x before
    comes : (x : ℕ) → places x before < places x after → start x ⊎ Parent x after

  parent-grows :
      (x : ℕ) (us ws : List ℕ) → ((u : ℕ) → places u us ≤ places u ws) → Parent x us → Parent x ws
  parent-grows x us ws g p =
      record { parent = p.parent; is_in = omega (arith, g p.parent, p.is_in); names = p.names }

  grown-none : (start : ℕ → Type 0) (n : ℕ) (us : List ℕ) → Grown start n us us
  grown-none start n us = record {
    grows = λ x. omega arith;
    closed = λ c. c;
    once = λ o. o;
    low = λ x l. refl;
    comes = λ x l. let z : ⊥ = omega arith in absurd z;
  }

  -- one step, and then the others
  grown-then :
      (s₁ s₂ s : ℕ → Type 0) (n : ℕ) (a b c : List ℕ) →
      ((x : ℕ) → s₁ x → s x) →
      ((x : ℕ) → s₂ x → s x) →
      Grown s₁ n a b →
      Grown s₂ n b c →
      Grown s n a c
  grown-then s₁ s₂ s n a b c f₁ f₂ g h = record {
    grows = λ x. omega (arith, g.grows x, h.grows x);
    closed = λ q. h.closed (g.closed q);
    once = λ q. h.once (g.once q);
    low = λ x l. h.low x l ∙ g.low x l;
    comes = λ x l. by x (dec_lt (places x b) (places x c)) l;
  }
    where
      first : (x : ℕ) → s₁ x ⊎ Parent x b → s x ⊎ Parent x c
      first x (inl p) = inl (f₁ x p)
      first x (inr p) = inr (parent-grows x b c h.grows p)

      then : (x : ℕ) → s₂ x ⊎ Parent x c → s x ⊎ Parent x c
      then x (inl p) = inl (f₂ x p)
      then x (inr p) = inr p

      by : (x : ℕ) → Dec (places x b < places x c) → places x a < places x c → s x ⊎ Parent x c
      by x (yes p) l = then x (h.comes x p)
      by x (no p) l = first x (g.comes x (omega arith))

  module _ (n : ℕ) (lower : (t : ℕ) → t < n → (j : ℕ) → j < length (kids t) → get_or (kids t) j 0 < t) where
    abbrev Reaches : ℕ → Type 0
    Reaches f =
        (t : ℕ) →
        t < n →
        t < f →
        (before : List ℕ) →
        Grown (λ (x : ℕ). x ≡ t) (suc t) before (reach_in kids f t before)
        × (0 < places t (reach_in kids f t before))

    record Turned (m : ℕ) (ks before after : List ℕ) : Type 0 where
      grown : Grown (λ (x : ℕ). 0 < places x ks) m before after
      all : (j : ℕ) → j < length ks → 0 < places (get_or ks j 0) after

    turned-step :
        (f m k : ℕ) (ks before : List ℕ) →
        k < m →
        Grown (λ (x : ℕ). x ≡ k) (suc k) before (reach_in kids f k before)
        × (0 < places k (reach_in kids f k before)) →
        Turned m ks (reach_in kids f k before) (in_turn (reach_in kids f) ks (reach_in kids f k before)) →
        Turned m (k ∷ ks) before (in_turn (reach_in kids f) ks (reach_in kids f k before))
    turned-step f m k ks before k-low one rest = record {
      grown =
          grown-then (λ (x : ℕ). x ≡ k) (λ (x : ℕ). 0 < places x ks) (λ (x : ℕ). 0 < places x (k ∷ ks)) m before
          (reach_in kids f k before) (in_turn (reach_in kids f) ks (reach_in kids f k before))
          (λ x e. omega (arith, places-here x k ks (sym e)))
          (λ x p. omega (arith, places-cons x k ks))
          (record {
            grows = one.0.grows;
            closed = one.0.closed;
            once = one.0.once;
            low = λ x l. one.0.low x (omega arith);
            comes = one.0.comes;
          })
          rest.grown;
      all = λ j l. has j l;
    }
      where
        has :
            (j : ℕ) →
            j < length (k ∷ ks) →
            0 < places (get_or (k ∷ ks) j 0) (in_turn (reach_in kids f) ks (reach_in kids f k before))
        has zero l = omega (arith, one.1, rest.grown.grows k)
        has (suc j) l = rest.all j (omega arith)

    turned :
        (f m : ℕ) →
        Reaches f →
        m ≤ f →
        m ≤ n →
        (ks : List ℕ) →
        ((j : ℕ) → j < length ks → get_or ks j 0 < m) →
        (before : List ℕ) →
        Turned m ks before (in_turn (reach_in kids f) ks before)
    unfolding in_turn
    turned f m reach a b [] low before =
        record { grown = grown-none _ m before; all = λ j l. let z : ⊥ = omega arith in absurd z }
    turned f m reach a b (k ∷ ks) low before =
        let k-low : k < m = low 0 (omega arith) in
        turned-step f m k ks before k-low (reach k (omega arith) (omega arith) before)
        (turned f m reach a b ks (λ j l. low (suc j) (omega arith)) (reach_in kids f k before))

    -- the children are reached, and t is new
    reaches-new :
        (f t : ℕ) (before : List ℕ) →
        t < n →
        places t before ≡ 0 →
        Turned t (kids t) before (in_turn (reach_in kids f) (kids t) before) →
        Grown (λ (x : ℕ). x ≡ t) (suc t) before (in_turn (reach_in kids f) (kids t) before ++ (t ∷ []))
        × (0 < places t (in_turn (reach_in kids f) (kids t) before ++ (t ∷ [])))
    reaches-new f t before k new w = (
      record {
        grows = λ x. omega (arith, w.grown.grows x, at-end x);
        closed = λ q u p j l. close q u p j l (ℕ_discrete t u);
        once = λ q u. single q u (ℕ_discrete t u);
        low =
            λ x l. omega (
              arith,
              w.grown.low x (omega arith),
              at-end x,
              places-other x t [] (λ (e : t ≡ x). omega arith),
              places-none x,
            );
        comes = λ x l. come x l (ℕ_discrete t x);
      },
      omega (arith, at-end t, places-here t t [] refl),
    )
      where
        at-end : (x : ℕ)
            → places x (in_turn (reach_in kids f) (kids t) before ++ (t ∷ [])) ≡ places x
            (in_turn (reach_in kids f) (kids t) before) + places x (t ∷ [])
        at-end x = places-append x (in_turn (reach_in kids f) (kids t) before) (t ∷ [])

        close :
            Closed before → (u : ℕ) → 0 < places u (in_turn (reach_in kids f) (kids t) before ++ (t ∷ [])) →
            (j : ℕ) → j < length (kids u) → Dec (t ≡ u) →
            0 < places (get_or (kids u) j 0) (in_turn (reach_in kids f) (kids t) before ++ (t ∷ []))
        close q u p j l (yes e) =
            subst
            (λ (v : ℕ).
            j < length (kids v) → 0 < places (get_or (kids v) j 0) (in_turn (reach_in kids f) (kids t) before ++ (t ∷ [])))
            e (λ (l : j < length (kids t)). omega (arith, w.all j l, at-end (get_or (kids t) j 0))) l
        close q u p j l (no e) =
            omega (
              arith,
              w.grown.closed q u (omega (arith, at-end u, places-other u t [] e, places-none u)) j l,
              at-end (get_or (kids u) j 0),
            )

        single : Once before → (u : ℕ) → Dec (t ≡ u)
            → places u (in_turn (reach_in kids f) (kids t) before ++ (t ∷ [])) ≤ 1
        single q u (yes e) =
            subst (λ (v : ℕ). places v (in_turn (reach_in kids f) (kids t) before ++ (t ∷ [])) ≤ 1) e
            (omega (arith, at-end t, w.grown.low t (omega arith), places-one t t))
        single q u (no e) = omega (arith, at-end u, w.grown.once q u, places-other u t [] e, places-none u)

        come :
            (x : ℕ) → places x before < places x (in_turn (reach_in kids f) (kids t) before ++ (t ∷ [])) → Dec (t ≡ x) →
            (x ≡ t) ⊎ Parent x (in_turn (reach_in kids f) (kids t) before ++ (t ∷ []))
        come x l (yes e) = inl (sym e)
        come x l (no e) = by (w.grown.comes x (omega (arith, at-end x, places-other x t [] e, places-none x)))
          where
            by : (0 < places x (kids t)) ⊎ Parent x (in_turn (reach_in kids f) (kids t) before) →
                (x ≡ t) ⊎ Parent x (in_turn (reach_in kids f) (kids t) before ++ (t ∷ []))
            by (inl p) =
                inr (record { parent = t; is_in = omega (arith, at-end t, places-here t t [] refl); names = p })
            by (inr p) =
                inr (parent-grows x (in_turn (reach_in kids f) (kids t) before)
                (in_turn (reach_in kids f) (kids t) before ++ (t ∷ [])) (λ u. omega (arith, at-end u)) p)

    reach_in-known : (f t : ℕ) (before : List ℕ) → member t before ≡ true → reach_in kids (suc f) t before ≡ before
    unfolding reach_in
    reach_in-known f t before e = rw (e, reach_in)

    reach_in-new :
        (f t : ℕ) (before : List ℕ) →
        member t before ≡ false →
        reach_in kids (suc f) t before ≡ in_turn (reach_in kids f) (kids t) before ++ (t ∷ [])
    unfolding reach_in
    reach_in-new f t before e = rw (e, reach_in)

    reaches-by :
        (f t : ℕ) (before : List ℕ) →
        t < n →
        Turned t (kids t) before (in_turn (reach_in kids f) (kids t) before) →
        (b : Bool) →
        member t before ≡ b →
        Grown (λ (x : ℕ). x ≡ t) (suc t) before (reach_in kids (suc f) t before)
        × (0 < places t (reach_in kids (suc f) t before))
    reaches-by f t before k w true e =
        rw (reach_in-known f t before e) (grown-none (λ (x : ℕ). x ≡ t) (suc t) before, (member-tells t before).0 e)
    reaches-by f t before k w false e =
        rw (reach_in-new f t before e) (reaches-new f t before k ((member-tells t before).1 e) w)

    reaches : (f : ℕ) → Reaches f
    reaches zero t k p before = let z : ⊥ = omega arith in absurd z
    reaches (suc f) t k p before =
        reaches-by f t before k
        (turned f t (reaches f) (omega arith) (omega arith) (kids t) (lower t k) before)
        (member t before) refl

    -- what is reached from the root
    module _ (root : ℕ) (k : root < n) where
      all_of :
          Grown (λ (x : ℕ). x ≡ root) (suc root) [] (reached kids root) × (0 < places root (reached kids root))
      unfolding reached
      all_of = reaches (suc root) root k (omega arith) []

      pub reached-root : 0 < places root (reached kids root)
      reached-root = all_of.1

      pub reached-once : (u : ℕ) → places u (reached kids root) ≤ 1
      reached-once = all_of.0.once (λ u. omega (arith, places-none u))

      pub reached-low : (u : ℕ) → root < u → places u (reached kids root) ≡ 0
      reached-low u l = all_of.0.low u l ∙ places-none u

      reached-closed : Closed (reached kids root)
      reached-closed = all_of.0.closed (λ u p j l. let z : ⊥ = omega (arith, places-none u) in absurd z)

      reached-comes : (x : ℕ) → 0 < places x (reached kids root) → (x ≡ root) ⊎ Parent x (reached kids root)
      reached-comes x p = all_of.0.comes x (omega (arith, places-none x))

  -- ---- a count as a sum
  places_in-step : (t u : ℕ) (us : List ℕ) → places_in kids t (u ∷ us) ≡ places t (kids u) + places_in kids t us
  unfolding places_in
  places_in-step t u us = refl

  places_in-none : (t : ℕ) → places_in kids t [] ≡ 0
  unfolding places_in
  places_in-none t = refl

  places_in-has : (t u : ℕ) (us : List ℕ) → 0 < places u us → places t (kids u) ≤ places_in kids t us
  places_in-has t u [] p = let z : ⊥ = omega (arith, places-none u) in absurd z
  places_in-has t u (w ∷ us) p = by (places_in-has t u us) (ℕ_discrete w u)
    where
      by : (0 < places u us → places t (kids u) ≤ places_in kids t us) → Dec (w ≡ u)
          → places t (kids u) ≤ places_in kids t (w ∷ us)
      by ih (yes e) =
          subst (λ (x : ℕ). places t (kids x) ≤ places_in kids t (w ∷ us)) e (omega (arith, places_in-step t w us))
      by ih (no e) = omega (arith, places_in-step t w us, ih (omega (arith, places-other u w us e)))

  places_in-parent : (t : ℕ) (us : List ℕ) → 0 < places_in kids t us → Parent t us
  places_in-parent t [] p = let z : ⊥ = omega (arith, places_in-none t) in absurd z
  places_in-parent t (u ∷ us) p = by (places_in-parent t us) (dec_lt 0 (places t (kids u)))
    where
      by : (0 < places_in kids t us → Parent t us) → Dec (0 < places t (kids u)) → Parent t (u ∷ us)
      by ih (yes q) = record { parent = u; is_in = omega (arith, places-here u u us refl); names = q }
      by ih (no q) =
          parent-grows t us (u ∷ us) (λ x. omega (arith, places-cons x u us))
          (ih (omega (arith, places_in-step t u us)))

  -- the part of a count that the terms from m on give
  unfoldable pub places_from : ℕ → ℕ → List ℕ → ℕ
  places_from m t [] = 0
  places_from m t (u ∷ us) = (elim (leb m u) [ true ↦ places t (kids u) | false ↦ 0 ]) + places_from m t us

  places_from-in : (m t u : ℕ) (us : List ℕ) → m ≤ u → places_from m t (u ∷ us) ≡ places t (kids u) + places_from m t us
  unfolding places_from
  places_from-in m t u us l = rw (le-leb m u l, places_from)

  places_from-out : (m t u : ℕ) (us : List ℕ) → u < m → places_from m t (u ∷ us) ≡ places_from m t us
  unfolding places_from
  places_from-out m t u us l = rw (lt-leb m u l, places_from) (omega arith)

  places_from-none : (m t : ℕ) → places_from m t [] ≡ 0
  unfolding places_from
  places_from-none m t = refl

  pub places_from-zero : (t : ℕ) (us : List ℕ) → places_from 0 t us ≡ places_in kids t us
  places_from-zero t [] = places_from-none 0 t ∙ sym (places_in-none t)
  places_from-zero t (u ∷ us) =
      omega (arith, places_from-in 0 t u us (omega arith), places_from-zero t us, places_in-step t u us)

  pub places_from-high : (m t : ℕ) (us : List ℕ) → ((u : ℕ) → m ≤ u → places u us ≡ 0) → places_from m t us ≡ 0
  places_from-high m t [] high = places_from-none m t
  places_from-high m t (u ∷ us) high =
      by (places_from-high m t us (λ x l. omega (arith, high x l, places-cons x u us))) (dec_lt u m)
    where
      by : places_from m t us ≡ 0 → Dec (u < m) → places_from m t (u ∷ us) ≡ 0
      by ih (yes l) = places_from-out m t u us l ∙ ih
      by ih (no l) =
          let z : ⊥ = omega (arith, high u (omega arith), places-here u u us refl) in absurd z

  -- a term that is not reached gives nothing; one that is reached once gives its places
  pub places_from-skip : (m t : ℕ) (us : List ℕ) → places m us ≡ 0 → places_from m t us ≡ places_from (suc m) t us
  places_from-skip m t [] e = places_from-none m t ∙ sym (places_from-none (suc m) t)
  places_from-skip m t (u ∷ us) e = by (places_from-skip m t us (omega (arith, places-cons m u us))) (dec_lt u m)
    where
      by : places_from m t us ≡ places_from (suc m) t us → Dec (u < m)
          → places_from m t (u ∷ us) ≡ places_from (suc m) t (u ∷ us)
      by ih (yes l) = places_from-out m t u us l ∙ (ih ∙ sym (places_from-out (suc m) t u us (omega arith)))
      by ih (no l) =
          let d : m < u = let q : u ≡ m → ⊥ = λ (r : u ≡ m). omega (arith, places-here m u us r) in omega (arith, q) in
          omega (arith, places_from-in m t u us (omega arith), places_from-in (suc m) t u us d, ih)

  pub places_from-give :
      (m t : ℕ) (us : List ℕ) → places m us ≡ 1 → places_from m t us ≡ places_from (suc m) t us + places t (kids m)
  places_from-give m t [] e = let z : ⊥ = omega (arith, places-none m) in absurd z
  places_from-give m t (u ∷ us) e = by (places_from-give m t us) (ℕ_discrete u m) (dec_lt u m)
    where
      by :
          (places m us ≡ 1 → places_from m t us ≡ places_from (suc m) t us + places t (kids m)) →
          Dec (u ≡ m) →
          Dec (u < m) →
          places_from m t (u ∷ us) ≡ places_from (suc m) t (u ∷ us) + places t (kids m)
      by ih (yes q) d =
          let s = places_from-skip m t us (omega (arith, places-here m u us q)) in
          let w : places t (kids u) ≡ places t (kids m) = ap (λ (x : ℕ). places t (kids x)) q in
          omega (arith, places_from-in m t u us (omega arith), places_from-out (suc m) t u us (omega arith), s, w)
      by ih (no q) (yes l) =
          omega (
            arith,
            places_from-out m t u us l,
            places_from-out (suc m) t u us (omega arith),
            ih (omega (arith, places-other m u us q)),
          )
      by ih (no q) (no l) =
          omega (
            arith,
            places_from-in m t u us (omega arith),
            places_from-in (suc m) t u us (omega arith),
            ih (omega (arith, places-other m u us q)),
          )

  module _
      (n : ℕ)
      (lower : (t : ℕ) → t < n → (j : ℕ) → j < length (kids t) → get_or (kids t) j 0 < t)
      (root : ℕ)
      (k : root < n)
    where
      -- the count as far as the terms from m on give it: 1 for the root, and the places of those that are reached
      unfoldable pub stage : ℕ → ℕ → ℕ
      stage m t = places_from m t (reached kids root) + places t (root ∷ [])

      stage_is : (m t : ℕ) → stage m t ≡ places_from m t (reached kids root) + places t (root ∷ [])
      unfolding stage
      stage_is m t = refl

      pub stage-first : (t : ℕ) → stage (suc root) t ≡ places t (root ∷ [])
      stage-first t =
          omega (
            arith,
            stage_is (suc root) t,
            places_from-high (suc root) t (reached kids root) (reached-low n lower root k),
          )

      count_is : (t : ℕ) → count kids root t ≡ places_in kids t (reached kids root) + places t (root ∷ [])
      unfolding count
      count_is t = refl

      pub stage-last : (t : ℕ) → stage 0 t ≡ count kids root t
      stage-last t = omega (arith, stage_is 0 t, places_from-zero t (reached kids root), count_is t)

      -- no term up to u names u
      own : (u : ℕ) (us : List ℕ) → ((v : ℕ) → 0 < places v us → v < n) → places_from (suc u) u us ≡ places_in kids u us
      own u [] low = places_from-none (suc u) u ∙ sym (places_in-none u)
      own u (v ∷ us) low =
          by (own u us (λ w p. low w (omega (arith, places-cons w v us))))
          (low v (omega (arith, places-here v v us refl)))
          (dec_lt u v)
        where
          by : places_from (suc u) u us ≡ places_in kids u us → v < n → Dec (u < v)
              → places_from (suc u) u (v ∷ us) ≡ places_in kids u (v ∷ us)
          by ih q (yes l) = omega (arith, places_from-in (suc u) u v us l, places_in-step u v us, ih)
          by ih q (no l) =
              omega (
                arith,
                places_from-out (suc u) u v us (omega arith),
                places_in-step u v us,
                ih,
                places-above v u (kids v) (lower v q) (omega arith),
              )

      below : (v : ℕ) → 0 < places v (reached kids root) → v < n
      below v p = by (dec_lt root v)
        where
          by : Dec (root < v) → v < n
          by (yes l) = let z : ⊥ = omega (arith, reached-low n lower root k v l) in absurd z
          by (no l) = omega arith

      pub stage-own : (u : ℕ) → stage (suc u) u ≡ count kids root u
      stage-own u = omega (arith, stage_is (suc u) u, own u (reached kids root) below, count_is u)

      -- a term is reached if and only if it has a count
      counted : (u : ℕ) → 0 < count kids root u → 0 < places u (reached kids root)
      counted u p = by (dec_lt 0 (places_in kids u (reached kids root)))
        where
          by : Dec (0 < places_in kids u (reached kids root)) → 0 < places u (reached kids root)
          by (yes q) =
              let w = places_in-parent u (reached kids root) q in
              let f = places-found u (kids w.parent) w.names in
              subst (λ (x : ℕ). 0 < places x (reached kids root)) f.is
              (reached-closed n lower root k w.parent w.is_in f.at f.inside)
          by (no q) =
              let r : 0 < places u (root ∷ []) = omega (arith, count_is u) in
              let f = places-found u (root ∷ []) r in
              the f
            where
              the : Found u (root ∷ []) → 0 < places u (reached kids root)
              the f = at f.at f.inside f.is
                where
                  at : (j : ℕ) → j < length (root ∷ []) → get_or (root ∷ []) j 0 ≡ u → 0 < places u (reached kids root)
                  at zero l e = subst (λ (x : ℕ). 0 < places x (reached kids root)) e (reached-root n lower root k)
                  at (suc j) l e = let z : ⊥ = omega arith in absurd z

      uncounted : (u : ℕ) → 0 < places u (reached kids root) → 0 < count kids root u
      uncounted u p = by (reached-comes n lower root k u p)
        where
          by : (u ≡ root) ⊎ Parent u (reached kids root) → 0 < count kids root u
          by (inl e) = omega (arith, count_is u, places-here u root [] (sym e))
          by (inr w) = omega (arith, count_is u, places_in-has u w.parent (reached kids root) w.is_in, w.names)

      -- a term without a count gives nothing, any other one to each of its child places
      pub stage-skip : (u t : ℕ) → stage (suc u) u ≡ 0 → stage u t ≡ stage (suc u) t
      stage-skip u t e = by (dec_lt 0 (places u (reached kids root)))
        where
          by : Dec (0 < places u (reached kids root)) → stage u t ≡ stage (suc u) t
          by (yes p) = let z : ⊥ = omega (arith, uncounted u p, stage-own u) in absurd z
          by (no p) =
              omega (arith, stage_is u t, stage_is (suc u) t, places_from-skip u t (reached kids root) (omega arith))

      pub stage-give : (u t : ℕ) → 0 < stage (suc u) u → stage u t ≡ stage (suc u) t + places t (kids u)
      stage-give u t p =
          let r : places u (reached kids root) ≡ 1 =
          omega (arith, counted u (omega (arith, stage-own u)), reached-once n lower root k u) in
          omega (arith, stage_is u t, stage_is (suc u) t, places_from-give u t (reached kids root) r)
