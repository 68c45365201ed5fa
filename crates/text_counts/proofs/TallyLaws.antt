-- The loops of counts and sizes. Assumes nothing.
use mathlib.Core.Path.{◌≡◌, refl, sym, ap, subst, ◌∙◌}
use mathlib.Core.List.{List, [], ◌∷◌}
use Prim.{Dec, yes, no}
use Prim.Native.Nat.{ℕ, zero, suc, ◌+◌, ◌*◌, ◌-◌, ◌<◌, ◌≤◌, min}
use native.Mathlib.Omega.{arith}
use native.Mathlib.Numerals.{add-one}
use native.Mathlib.Decide.{ℕ_discrete, dec_lt}
use lib.ListN.{length, get_or, set, take, drop, length-set, drop_of_length-le}
use lib.Seq.{drop-cons, get_or-set_same, get_or-set_other, take-suc}
use Rattle.text_rules.specs.Counts.{places, size}
use Rattle.text_rules.proofs.CountLaws.{
  places-none,
  places-here,
  places-other,
  places-append,
  places-length,
  stage,
  stage-first,
  stage-last,
  stage-skip,
  stage-give,
}
use Rattle.text_rules.proofs.SizeLaws.{sum_of-step, sum_of-none, sum_of-capped, size_step}
use Rattle.term_rules.specs.Lent.{kids_at}
use Rattle.term_layout.proofs.KidsLaws.{kids-length}
use Rattle.text_counts.specs.Tallies.{Linked, Most, Given, Counts, Sizes, sum_at}

pub kids-few : (rs : List ℕ) (n t : ℕ) → Linked rs n → t < n → length (kids_at rs t) ≤ 8
kids-few rs n t w l =
    omega (arith, kids-length rs t, w.arity t l)

pub most-set : (b : ℕ) (xs : List ℕ) (k v : ℕ) → Most b xs → v ≤ b → Most b (set xs k v)
most-set b [] k v m h i = m i
most-set b (x ∷ xs) zero v m h zero = h
most-set b (x ∷ xs) zero v m h (suc i) = m (suc i)
most-set b (x ∷ xs) (suc k) v m h zero = m 0
most-set b (x ∷ xs) (suc k) v m h (suc i) = most-set b xs k v (λ j. m (suc j)) h i

pub most-more : (b d : ℕ) (xs : List ℕ) → Most b xs → b ≤ d → Most d xs
most-more b d xs m h i = omega (arith, m i)

-- ---- one more for each of the first j places
pub record Adding (b : ℕ) (before ks now : List ℕ) (j : ℕ) : Type 0 where
  pub at : j ≤ length ks
  pub long : length now ≡ length before
  pub low : Most (b + j) now
  pub each : (x : ℕ) → x < length before → get_or now x 0 ≡ get_or before x 0 + places x (take j ks)

pub adding-none : (b : ℕ) (before ks : List ℕ) → Most b before → Adding b before ks before 0
adding-none b before ks m = record {
  at = omega arith;
  long = refl;
  low = λ i. omega (arith, m i);
  each = λ x l. omega (arith, places-none x);
}

module _ (b : ℕ) (before ks now : List ℕ) (j : ℕ) (v : Adding b before ks now j) where
  pub adding-again :
      j < length ks →
      get_or ks j 0 < length before →
      Adding b before ks (set now (get_or ks j 0) (get_or now (get_or ks j 0) 0 + 1)) (j + 1)
  adding-again l inside =
      let k : ℕ = get_or ks j 0 in
      record {
        at = omega arith;
        long = length-set now (get_or ks j 0) (get_or now (get_or ks j 0) 0 + 1) ∙ v.long;
        low =
            most-set (b + (j + 1)) now (get_or ks j 0) (get_or now (get_or ks j 0) 0 + 1)
            (most-more (b + j) (b + (j + 1)) now v.low (omega arith)) (omega (arith, v.low (get_or ks j 0)));
        each = λ x lx. by x lx (ℕ_discrete x (get_or ks j 0));
      }
    where
      more : (x : ℕ) → places x (take (j + 1) ks) ≡ places x (take j ks) + places x (get_or ks j 0 ∷ [])
      more x = rw (add-one, take-suc ks j 0 l) (places-append x (take j ks) (get_or ks j 0 ∷ []))

      by :
          (x : ℕ) →
          x < length before →
          Dec (x ≡ get_or ks j 0) →
          get_or (set now (get_or ks j 0) (get_or now (get_or ks j 0) 0 + 1)) x 0 ≡ get_or before x 0 +
          places x (take (j + 1) ks)
      by x lx (yes e) =
          let s : get_or (set now (get_or ks j 0) (get_or now (get_or ks j 0) 0 + 1)) (get_or ks j 0) 0
          ≡ get_or now (get_or ks j 0) 0 + 1 =
          get_or-set_same now (get_or ks j 0) (get_or now (get_or ks j 0) 0 + 1) 0 (omega (arith, v.long)) in
          let h : get_or (set now (get_or ks j 0) (get_or now (get_or ks j 0) 0 + 1)) x 0 ≡ get_or now x 0 + 1 =
          subst
          (λ (y : ℕ). get_or (set now (get_or ks j 0) (get_or now (get_or ks j 0) 0 + 1)) y 0 ≡ get_or now y 0 + 1)
          (sym e) s in
          omega (arith, h, v.each x lx, more x, places-here x (get_or ks j 0) [] (sym e), places-none x)
      by x lx (no e) =
          omega (
            arith,
            get_or-set_other now (get_or ks j 0) x (get_or now (get_or ks j 0) 0 + 1) 0 e,
            v.each x lx,
            more x,
            places-other x (get_or ks j 0) [] (λ (q : get_or ks j 0 ≡ x). e (sym q)),
            places-none x,
          )

-- ---- counts: the terms from t on have given
get_d_past : (xs : List ℕ) (i : ℕ) → length xs ≤ i → get_or xs i 0 ≡ 0
get_d_past [] i l = refl
get_d_past (x ∷ xs) zero l = let z : ⊥ = omega arith in absurd z
get_d_past (x ∷ xs) (suc i) l = get_d_past xs i (omega arith)

module _ (rs : List ℕ) (n : ℕ) (w : Linked rs n) (k : n - 1 < n) where
  abbrev up_to : ℕ → ℕ → ℕ
  up_to m x = stage (kids_at rs) n w.lower (n - 1) k m x

  pub record Counting (before now : List ℕ) (t : ℕ) : Type 0 where
    pub at : t ≤ n
    pub long : length now ≡ length before
    pub low : Most (1 + 8 * (n - t)) now
    pub same : (x : ℕ) → x < n → get_or now x 0 ≡ up_to t x

  -- the root has its 1
  pub counting-none :
      (counts : List ℕ) → n ≤ length counts → Most 0 counts → Counting (set counts (n - 1) 1) (set counts (n - 1) 1) n
  counting-none counts l m = record {
    at = omega arith;
    long = refl;
    low =
        most-set (1 + 8 * (n - n)) counts (n - 1) 1
        (most-more 0 (1 + 8 * (n - n)) counts m (omega arith)) (omega arith);
    same = λ x lx. by x (ℕ_discrete x (n - 1)) ∙ sym (start x);
  }
    where
      start : (x : ℕ) → up_to n x ≡ places x ((n - 1) ∷ [])
      start x =
          let e : suc (n - 1) ≡ n = omega arith in
          subst (λ (m : ℕ). up_to m x ≡ places x ((n - 1) ∷ [])) e (stage-first (kids_at rs) n w.lower (n - 1) k x)

      by : (x : ℕ) → Dec (x ≡ n - 1) → get_or (set counts (n - 1) 1) x 0 ≡ places x ((n - 1) ∷ [])
      by x (yes e) =
          let h : get_or (set counts (n - 1) 1) x 0 ≡ 1 =
          subst (λ (y : ℕ). get_or (set counts (n - 1) 1) y 0 ≡ 1) (sym e)
          (get_or-set_same counts (n - 1) 1 0 (omega arith)) in
          omega (arith, h, places-here x (n - 1) [] (sym e), places-none x)
      by x (no e) =
          omega (
            arith,
            get_or-set_other counts (n - 1) x 1 0 e,
            m x,
            places-other x (n - 1) [] (λ (q : n - 1 ≡ x). e (sym q)),
            places-none x,
          )

  module _ (before now now' : List ℕ) (t : ℕ) (v : Counting before now t) (pos : 0 < t) where
    given-low :
        (x : ℕ) →
        length now' ≡ length now →
        Given (t - 1) (kids_at rs (t - 1)) now now' →
        Dec (x < length now) →
        Dec (get_or now (t - 1) 0 ≡ 0) →
        get_or now' x 0 ≤ 1 + 8 * (n - t) + 8
    given-low x long g (no l) d = omega (arith, get_d_past now' x (omega arith))
    given-low x long g (yes l) (yes e) =
        omega (arith, v.low x, ap (λ (y : List ℕ). get_or y x 0) (g.none e))
    given-low x long g (yes l) (no e) =
        omega (
          arith,
          v.low x,
          (g.some (omega arith)).each x l,
          places-length x (kids_at rs (t - 1)),
          kids-few rs n (t - 1) w (omega (arith, v.at)),
        )

    given-same :
        (x : ℕ) →
        x < n →
        n ≤ length now →
        Given (t - 1) (kids_at rs (t - 1)) now now' →
        Dec (get_or now (t - 1) 0 ≡ 0) →
        get_or now' x 0 ≡ up_to (t - 1) x
    given-same x lx room g d =
        by d (subst (λ (m : ℕ). (y : ℕ) → y < n → get_or now y 0 ≡ up_to m y) e v.same)
      where
        e : t ≡ suc (t - 1)
        e = omega arith

        by : Dec (get_or now (t - 1) 0 ≡ 0) → ((y : ℕ) → y < n → get_or now y 0 ≡ up_to (suc (t - 1)) y)
            → get_or now' x 0 ≡ up_to (t - 1) x
        by (yes z) same =
            ap (λ (y : List ℕ). get_or y x 0) (g.none z)
            ∙ (same x lx
            ∙ sym
            (stage-skip (kids_at rs) n w.lower (n - 1) k (t - 1) x
            (sym (same (t - 1) (omega (arith, v.at))) ∙ z)))
        by (no z) same =
            omega (
              arith,
              (g.some (omega arith)).each x (omega arith),
              same x lx,
              stage-give (kids_at rs) n w.lower (n - 1) k (t - 1) x
                  (omega (arith, same (t - 1) (omega (arith, v.at)))),
            )

    pub counting-again :
        n ≤ length now →
        length now' ≡ length now →
        Given (t - 1) (kids_at rs (t - 1)) now now' →
        Counting before now' (t - 1)
    counting-again room long g = record {
      at = omega (arith, v.at);
      long = long ∙ v.long;
      low = λ x.
          omega
          (arith, given-low x long g (dec_lt x (length now)) (ℕ_discrete (get_or now (t - 1) 0) 0), v.at);
      same = λ x lx. given-same x lx room g (ℕ_discrete (get_or now (t - 1) 0) 0);
    }

  pub counting-end : (before now : List ℕ) (t : ℕ) → t ≤ 0 → Counting before now t → Counts rs now n
  counting-end before now t l v x lx =
      let z : t ≡ 0 = omega arith in
      v.same x lx
      ∙ (ap (λ (m : ℕ). up_to m x) z ∙ stage-last (kids_at rs) n w.lower (n - 1) k x)

-- ---- a size from the first j children's
pub record Summing (zs ks : List ℕ) (acc j : ℕ) : Type 0 where
  pub at : j ≤ length ks
  pub low : acc ≤ 4
  pub same : min 4 (acc + sum_at zs (drop j ks)) ≡ min 4 (1 + sum_at zs ks)

pub summing-again :
    (zs ks : List ℕ) (acc j r : ℕ) →
    j < length ks →
    r ≡ min 4 (acc + get_or zs (get_or ks j 0) 0) →
    Summing zs ks acc j →
    Summing zs ks r (j + 1)
summing-again zs ks acc j r l e v =
    let d : sum_at zs (drop j ks) ≡ get_or zs (get_or ks j 0) 0 + sum_at zs (drop (j + 1) ks) =
    rw (drop-cons ks j 0 l, add-one) (sum_of-step (λ (k : ℕ). get_or zs k 0) (get_or ks j 0) (drop (suc j) ks)) in
    record { at = omega arith; low = omega arith; same = omega (arith, v.same) }

pub summing-end :
    (zs ks : List ℕ) (acc j : ℕ) → length ks ≤ j → Summing zs ks acc j → acc ≡ min 4 (1 + sum_at zs ks)
summing-end zs ks acc j l v =
    let d : sum_at zs (drop j ks) ≡ 0 = rw (drop_of_length-le ks l) (sum_of-none (λ (k : ℕ). get_or zs k 0)) in
    omega (arith, v.same, v.low)

-- ---- sizes up to term t
pub record Sizing (rs : List ℕ) (n : ℕ) (before now : List ℕ) (t : ℕ) : Type 0 where
  pub at : t ≤ n
  pub long : length now ≡ length before
  pub low : Most 4 now
  pub same : Sizes rs now t

pub sizing-again :
    (rs : List ℕ) (n : ℕ) (before now : List ℕ) (t r : ℕ) →
    Linked rs n →
    t < n →
    n ≤ length before →
    r ≡ min 4 (1 + sum_at now (kids_at rs t)) →
    Sizing rs n before now t →
    Sizing rs n before (set now t r) (t + 1)
sizing-again rs n before now t r w l room e v = record {
  at = omega arith;
  long = length-set now t r ∙ v.long;
  low = most-set 4 now t r v.low (omega arith);
  same = λ x lx. by x lx (ℕ_discrete x t);
}
  where
    right : r ≡ min 4 (size (kids_at rs) t)
    right =
        e
        ∙ (sum_of-capped (λ (k : ℕ). get_or now k 0) (size (kids_at rs)) (kids_at rs t) 1
        (λ j lj. v.same (get_or (kids_at rs t) j 0) (w.lower t l j lj))
        ∙ ap (min 4) (sym (size_step (kids_at rs) n w.lower t l)))

    by : (x : ℕ) → x < t + 1 → Dec (x ≡ t) → get_or (set now t r) x 0 ≡ min 4 (size (kids_at rs) x)
    by x lx (yes q) =
        subst (λ (y : ℕ). get_or (set now t r) y 0 ≡ min 4 (size (kids_at rs) y)) (sym q)
        (get_or-set_same now t r 0 (omega (arith, v.long)) ∙ right)
    by x lx (no q) = get_or-set_other now t x r 0 q ∙ v.same x (omega arith)
