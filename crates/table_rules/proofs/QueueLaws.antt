-- Laws of the queue: what joins it, that no sort joins twice, and that what is reached is closed. Assumes nothing.
use Prim.Native.Nat.{ℕ, suc, zero, ◌+◌, ◌-◌, ◌≤◌, ◌<◌}
use mathlib.Core.Path.{◌≡◌, refl, ap, sym, ◌∙◌, subst}
use mathlib.Core.Bool.{Bool, true, false, cond}
use mathlib.Core.List.{List, [], ◌∷◌, ◌++◌, append_assoc, append-nil}
use native.Mathlib.Omega.{arith}
use native.Mathlib.Nat.{sub-zero}
use native.Mathlib.Numerals.{add-one}
use native.Mathlib.Decide.{ℕ_discrete}
use borrow.Author.Tests.{ltb-true, ltb-false, lt-ltb, le-ltb}
use lib.Dec.{ltb}
use lib.ListN.{length, get_or, take, drop, set, length-append, length-take, length-set, get_or-append}
use lib.Seq.{drop-length, get_or-take}
use Rattle.table_rules.specs.Order.{has, Within, Apart, none, picked, in_turn, join, visits}
use Rattle.table_rules.proofs.HasLaws.{
  by-test,
  drop-step,
  take-set-last,
  has_first,
  has-later,
  has-cons,
  has-nil,
  has_left,
  has_right,
  has-get,
  has-place,
  apart-last,
  apart-length,
}
use Rattle.table_rules.proofs.PickedLaws.{picked-yes, picked-no, picked-end}

pub join-seen : (a : ℕ) (q l : List ℕ) → has a q ≡ true → join q (a ∷ l) ≡ join q l
unfolding join
join-seen a q l e = ap (λ (b : Bool). join (cond b q (q ++ (a ∷ []))) l) e

pub join-new : (a : ℕ) (q l : List ℕ) → has a q ≡ false → join q (a ∷ l) ≡ join (q ++ (a ∷ [])) l
unfolding join
join-new a q l e = ap (λ (b : Bool). join (cond b q (q ++ (a ∷ []))) l) e

pub join-append : (q l r : List ℕ) → join q (l ++ r) ≡ join (join q l) r
unfolding join
join-append q [] r = refl
join-append q (a ∷ l) r = by-test (has a q)
    (λ e. join-seen a q (l ++ r) e ∙ join-append q l r ∙ ap (λ (x : List ℕ). join x r) (sym (join-seen a q l e)))
    (λ e. join-new a q (l ++ r) e ∙ join-append (q ++ (a ∷ [])) l r
    ∙ ap (λ (x : List ℕ). join x r) (sym (join-new a q l e)))

pub join_apart : (s : ℕ) (q l : List ℕ) → Apart s q → Within s l → Apart s (join q l)
unfolding join
join_apart s q [] v h = v
join_apart s q (a ∷ l) v h = by-test (has a q)
    (λ e. rw (join-seen a q l e) (join_apart s q l v (λ x t. h x (has-later x a l t))))
    (λ e. rw (join-new a q l e) (join_apart s (q ++ (a ∷ [])) l
    (apart-last a q v (h a (has_first a a l refl)) e) (λ x t. h x (has-later x a l t))))

-- r goes on from q.
abbrev Extends : List ℕ → List ℕ → Type 0
Extends q r = (t : List ℕ) × (r ≡ q ++ t)

extends-trans : (q r u : List ℕ) → Extends q r → Extends r u → Extends q u
extends-trans q r u a b =
    (a.0 ++ b.0, b.1 ∙ ap (λ (x : List ℕ). x ++ b.0) a.1 ∙ append_assoc q a.0 b.0)

extends-has : (a : ℕ) (q r : List ℕ) → Extends q r → has a q ≡ true → has a r ≡ true
extends-has a q r e h = rw e.1 (has_left a q e.0 h)

extends-get : (p : ℕ) (q r : List ℕ) → Extends q r → p < length q → get_or r p 0 ≡ get_or q p 0
extends-get p q r e l = rw e.1 (get_or-append q e.0 0 p l)

join-extends : (q l : List ℕ) → Extends q (join q l)
unfolding join
join-extends q [] = ([], sym (append-nil q))
join-extends q (a ∷ l) = by-test (has a q)
    (λ e. rw (join-seen a q l e) (join-extends q l))
    (λ e. rw (join-new a q l e) (extends-trans q (q ++ (a ∷ [])) (join (q ++ (a ∷ [])) l)
    (a ∷ [], refl) (join-extends (q ++ (a ∷ [])) l)))

pub join-finds : (x : ℕ) (q l : List ℕ) → has x l ≡ true → has x (join q l) ≡ true
join-finds x q [] h = has-nil x h
join-finds x q (a ∷ l) h = has-cons x a l h
    (λ e. by-test (has a q)
    (λ t. rw (join-seen a q l t) (extends-has x q (join q l) (join-extends q l) (rw e at t)))
    (λ t. rw (join-new a q l t) (extends-has x (q ++ (a ∷ [])) (join (q ++ (a ∷ [])) l)
    (join-extends (q ++ (a ∷ [])) l) (has_right x q (a ∷ []) (has_first x a [] e)))))
    (λ t. by-test (has a q)
    (λ u. rw (join-seen a q l u) (join-finds x q l t))
    (λ u. rw (join-new a q l u) (join-finds x (q ++ (a ∷ [])) l t)))

module _ (bring : ℕ → List ℕ) where
  visits-on : (n i : ℕ) (q : List ℕ) → i < length q → visits bring (suc n) i q ≡ visits bring n (suc i) (join q
      (bring (get_or q i 0)))
  unfolding visits
  visits-on n i q h = rw (lt-ltb i (length q) h)

  visits-off : (n i : ℕ) (q : List ℕ) → length q ≤ i → visits bring n i q ≡ q
  unfolding visits
  visits-off zero i q h = refl
  visits-off (suc n) i q h = rw (le-ltb i (length q) h)

  visits-extends : (n i : ℕ) (q : List ℕ) → Extends q (visits bring n i q)
  unfolding visits
  visits-extends zero i q = ([], sym (append-nil q))
  visits-extends (suc n) i q = by-test (ltb i (length q))
      (λ e. rw (visits-on n i q (ltb-true i (length q) e)) (extends-trans q (join q (bring (get_or q i 0)))
      (visits bring n (suc i) (join q (bring (get_or q i 0))))
      (join-extends q (bring (get_or q i 0))) (visits-extends n (suc i) (join q (bring (get_or q i 0))))))
      (λ e. rw (visits-off (suc n) i q (ltb-false i (length q) e)) ([], sym (append-nil q)))

  pub visits-keeps : (a n i : ℕ) (q : List ℕ) → has a q ≡ true → has a (visits bring n i q) ≡ true
  visits-keeps a n i q h = extends-has a q (visits bring n i q) (visits-extends n i q) h

  -- The sorts at the places below i have what they bring in q.
  abbrev Closed : ℕ → List ℕ → Type 0
  Closed i q = (p a : ℕ) → p < i → p < length q → has a (bring (get_or q p 0)) ≡ true → has a q ≡ true

  closed-step : (i : ℕ) (q : List ℕ) → i < length q → Closed i q → Closed (suc i) (join q (bring (get_or q i 0)))
  closed-step i q l v p a h k t = go (ℕ_discrete p i)
    where
      e : Extends q (join q (bring (get_or q i 0)))
      e = join-extends q (bring (get_or q i 0))

      go : Dec (p ≡ i) → has a (join q (bring (get_or q i 0))) ≡ true
      go (yes x) =
          let s = extends-get p q (join q (bring (get_or q i 0))) e (omega arith) ∙ ap (λ (y : ℕ). get_or q y 0) x in
          join-finds a q (bring (get_or q i 0)) (subst (λ (y : ℕ). has a (bring y) ≡ true) s t)
      go (no x) =
          let s = extends-get p q (join q (bring (get_or q i 0))) e (omega arith) in
          extends-has a q (join q (bring (get_or q i 0))) e
          (v p a (omega arith) (omega arith) (subst (λ (y : ℕ). has a (bring y) ≡ true) s t))

  module _ (s : ℕ) (within : (k : ℕ) → Within s (bring k)) where
    pub visits-apart : (n i : ℕ) (q : List ℕ) → Apart s q → Apart s (visits bring n i q)
    unfolding visits
    visits-apart zero i q d = d
    visits-apart (suc n) i q d = by-test (ltb i (length q))
        (λ e. rw (visits-on n i q (ltb-true i (length q) e))
        (visits-apart n (suc i) (join q (bring (get_or q i 0))) (join_apart s q (bring (get_or q i 0)) d (within
        (get_or q i 0)))))
        (λ e. rw (visits-off (suc n) i q (ltb-false i (length q) e)) d)

    visits-closed :
        (n i : ℕ) (q : List ℕ) → s ≤ n + i → Apart s q → Closed i q →
        Closed (length (visits bring n i q)) (visits bring n i q)
    unfolding visits
    visits-closed zero i q l d v = λ p a h k. v p a (omega (arith, apart-length s q d)) k
    visits-closed (suc n) i q l d v = by-test (ltb i (length q))
        (λ e. let h = ltb-true i (length q) e in rw (visits-on n i q h)
        (visits-closed n (suc i) (join q (bring (get_or q i 0))) (omega arith)
        (join_apart s q (bring (get_or q i 0)) d (within (get_or q i 0))) (closed-step i q h v)))
        (λ e. let h = ltb-false i (length q) e in rw (visits-off (suc n) i q h) (λ p a t k. v p a (omega arith) k))

    -- What a reached sort brings is reached.
    pub visits-bring :
        (k a : ℕ) (q : List ℕ) → Apart s q → has k (visits bring s 0 q) ≡ true → has a (bring k) ≡ true →
        has a (visits bring s 0 q) ≡ true
    visits-bring k a q d h t =
        let p = has-place k (visits bring s 0 q) h in
        visits-closed s 0 q (omega arith) d (λ x y l. absurd (omega arith)) p.0 a p.1 p.1 (rw p.2 t)

-- The loop that joins.
pub record Joins (s : ℕ) (wanted l q : List ℕ) (m j : ℕ) : Type 0 where
  pub at : j ≤ length l
  pub room : m ≤ length q
  pub all : s ≤ length q
  pub apart : Apart s (take m q)
  pub is : join (take m q) (drop j l) ≡ wanted

module _ (s : ℕ) (wanted l q : List ℕ) (m j : ℕ) (v : Joins s wanted l q m j) where
  pub joins-end : length l ≤ j → take m q ≡ wanted
  unfolding join
  joins-end h = let e : j ≡ length l = omega (arith, v.at) in rw (e, drop-length) at v.is

  module _ (h : j < length l) where
    pub joins-seen : has (get_or l j 0) (take m q) ≡ true → Joins s wanted l q m (j + 1)
    joins-seen e = record {
      at = omega arith;
      room = v.room;
      all = v.all;
      apart = v.apart;
      is = sym (join-seen (get_or l j 0) (take m q) (drop (j + 1) l) e) ∙ rw (drop-step l j h) at v.is;
    }

    module _ (within : Within s l) (e : has (get_or l j 0) (take m q) ≡ false) where
      joins-apart : Apart s (take m q ++ (get_or l j 0 ∷ []))
      joins-apart = apart-last (get_or l j 0) (take m q) v.apart (within (get_or l j 0) (has-get l j h)) e

      pub joins-room : m < length q
      joins-room =
          let f = apart-length s (take m q ++ (get_or l j 0 ∷ [])) joins-apart in
          omega (arith, simp (length-append, length-take) at f, v.room, v.all)

      pub joins-new : Joins s wanted l (set q m (get_or l j 0)) (m + 1) (j + 1)
      joins-new = record {
        at = omega arith;
        room = rw length-set (omega (arith, joins-room));
        all = rw length-set v.all;
        apart = rw (take-set-last q m (get_or l j 0) joins-room) joins-apart;
        is = rw (take-set-last q m (get_or l j 0) joins-room)
            (sym (join-new (get_or l j 0) (take m q) (drop (j + 1) l) e) ∙ rw (drop-step l j h) at v.is);
      }

-- The loop over a sort's functions.
pub record Visiting (s n : ℕ) (p : ℕ → Bool) (args : ℕ → List ℕ) (wanted q : List ℕ) (m f : ℕ) : Type 0 where
  pub at : f ≤ n
  pub room : m ≤ length q
  pub all : s ≤ length q
  pub apart : Apart s (take m q)
  pub is : join (take m q) (in_turn args (picked p f (n - f))) ≡ wanted

module _ (s n : ℕ) (p : ℕ → Bool) (args : ℕ → List ℕ) (wanted q : List ℕ) (m f : ℕ)
    (v : Visiting s n p args wanted q m f) where
  pub visiting-end : n ≤ f → take m q ≡ wanted
  unfolding in_turn join
  visiting-end h = rw (picked-end p f n h) at v.is

  module _ (l : f < n) where
    pub visiting-no : p f ≡ false → Visiting s n p args wanted q m (f + 1)
    visiting-no e = record {
      at = omega arith;
      room = v.room;
      all = v.all;
      apart = v.apart;
      is = rw (picked-no p f n l e) at v.is;
    }

    pub visiting-yes :
        p f ≡ true →
        Within s (args f) →
        (q' : List ℕ) (m' : ℕ) →
        m' ≤ length q' →
        length q' ≡ length q →
        take m' q' ≡ join (take m q) (args f) →
        Visiting s n p args wanted q' m' (f + 1)
    unfolding in_turn
    visiting-yes e w q' m' r t d = record {
      at = omega arith;
      room = r;
      all = omega (arith, v.all);
      apart = rw d (join_apart s (take m q) (args f) v.apart w);
      is = rw d (sym (join-append (take m q) (args f) (in_turn args (picked p (f + 1) (n - (f + 1)))))
          ∙ rw (picked-yes p f n l e) at v.is);
    }

-- The loop over the queue.
pub record Reaching (s : ℕ) (bring : ℕ → List ℕ) (wanted q : List ℕ) (n i : ℕ) : Type 0 where
  pub room : n ≤ length q
  pub all : s ≤ length q
  pub apart : Apart s (take n q)
  pub is : visits bring (s - i) i (take n q) ≡ wanted

pub reaching-start :
    (s : ℕ) (roots : List ℕ) (bring : ℕ → List ℕ) (q : List ℕ) (n : ℕ) →
    s ≤ length q →
    Within s roots →
    n ≤ length q →
    take n q ≡ join [] roots →
    Reaching s bring (visits bring s 0 (join [] roots)) q n 0
reaching-start s roots bring q n l w r e = record {
  room = r;
  all = l;
  apart = rw e (join_apart s [] roots none w);
  is = rw (sub-zero, e);
}

module _ (s : ℕ) (bring : ℕ → List ℕ) (wanted q : List ℕ) (n i : ℕ) (v : Reaching s bring wanted q n i) where
  pub reaching-few : n ≤ s
  reaching-few = omega (arith, rw (length-take n q) at (apart-length s (take n q) v.apart), v.room)

  pub reaching-end : n ≤ i → take n q ≡ wanted
  reaching-end h = sym (visits-off bring (s - i) i (take n q) (rw (length-take n q) (omega arith))) ∙ v.is

  pub reaching-step :
      i < n →
      Within s (bring (get_or q i 0)) →
      (q' : List ℕ) (n' : ℕ) →
      n' ≤ length q' →
      length q' ≡ length q →
      take n' q' ≡ join (take n q) (bring (get_or q i 0)) →
      Reaching s bring wanted q' n' (i + 1)
  reaching-step h w q' n' r t e =
      let m : s - i ≡ suc (s - suc i) = omega (arith, reaching-few) in
      let k : i < length (take n q) = rw (length-take n q) (omega (arith, v.room)) in
      let d : join (take n q) (bring (get_or (take n q) i 0)) ≡ take n' q' = rw (get_or-take n q i 0 h) (sym e) in
      let u : visits bring (suc (s - suc i)) i (take n q) ≡ wanted = rw m at v.is in
      record {
        room = r;
        all = omega (arith, v.all);
        apart = rw e (join_apart s (take n q) (bring (get_or q i 0)) v.apart w);
        is = rw add-one (rw d at (sym (visits-on bring (s - suc i) i (take n q) k)) ∙ u);
      }
