-- Laws of the loops that fill a list by the numbers of an order: f of each, and the sums of f. Assumes nothing.
use Prim.Native.Nat.{ℕ, zero, suc, ◌+◌, ◌*◌, ◌≤◌, ◌<◌}
use mathlib.Core.Path.{◌≡◌, refl, sym, ◌∙◌}
use mathlib.Core.List.{List, [], ◌∷◌, ◌++◌, map}
use native.Mathlib.Omega.{arith}
use native.Mathlib.Decide.{ℕ_discrete}
use native.Mathlib.Numerals.{add-one}
use lib.ListN.{length, get_or, take, set, length-set, length-map}
use lib.Seq.{ext_get_or, get_or-take, length-take-le, get_or-set_same, get_or-set_other, take-suc}
use Rattle.choice_rules.specs.Rows.{sum_of}
use Rattle.table_flat.specs.Arrays.{Mapped, Sums}

pub map_get : {A : Type 0} (f : ℕ → A) (l : List ℕ) (k : ℕ) (d : A) → k < length l → get_or (map f l) k d ≡ f
    (get_or l k 0)
map_get f [] k d h = absurd (omega arith)
map_get f (x ∷ l) zero d h = refl
map_get f (x ∷ l) (suc k) d h = map_get f l k d (omega arith)

pub record Mapping (f : ℕ → ℕ) (order list : List ℕ) (k : ℕ) : Type 0 where
  pub at : k ≤ length order
  pub room : length order ≤ length list
  pub done : (d : ℕ) → d < k → get_or list d 0 ≡ f (get_or order d 0)

module _ (f : ℕ → ℕ) (order list : List ℕ) where
  pub mapping-start : length order ≤ length list → Mapping f order list 0
  mapping-start r = record { at = omega arith; room = r; done = λ d h. absurd (omega arith) }

  module _ (k : ℕ) (v : Mapping f order list k) where
    pub mapping-step : k < length order → (x : ℕ) → x ≡ f (get_or order k 0) → Mapping f order (set list k x) (k + 1)
    mapping-step h x e = record {
      at = omega arith;
      room = rw length-set v.room;
      done = λ d l. go d l (ℕ_discrete d k);
    }
      where
        go : (d : ℕ) → d < k + 1 → Dec (d ≡ k) → get_or (set list k x) d 0 ≡ f (get_or order d 0)
        go d l (yes q) = rw (q, get_or-set_same list k x 0 (omega (arith, v.room))) e
        go d l (no q) = get_or-set_other list k d x 0 q ∙ v.done d (omega arith)

    pub mapping-end : length order ≤ k → Mapped f order list
    mapping-end h = record {
      room = v.room;
      is = ext_get_or 0 (take (length order) list) (map f order) (long ∙ sym (length-map order f))
          (λ d l. same d (omega (arith, long)));
    }
      where
        long : length (take (length order) list) ≡ length order
        long = length-take-le (length order) list v.room

        same : (d : ℕ) → d < length order → get_or (take (length order) list) d 0 ≡ get_or (map f order) d 0
        same d l =
            get_or-take (length order) list d 0 l ∙ v.done d (omega arith) ∙ sym (map_get f order d 0 l)

module _ (f : ℕ → ℕ) where
  pub sum_of-append : (l r : List ℕ) → sum_of f (l ++ r) ≡ sum_of f l + sum_of f r
  unfolding sum_of
  sum_of-append [] r = omega arith
  sum_of-append (x ∷ l) r = omega (arith, sum_of-append l r)

  pub sum_of-next : (l : List ℕ) (k : ℕ) → k < length l → sum_of f (take (k + 1) l) ≡ sum_of f (take k l) + f
      (get_or l k 0)
  unfolding sum_of
  sum_of-next l k h =
      rw (add-one, take-suc l k 0 h) (sum_of-append (take k l) (get_or l k 0 ∷ []) ∙ omega arith)

-- The loop of sums.
pub record Summing (f : ℕ → ℕ) (order starts : List ℕ) (at k : ℕ) : Type 0 where
  pub within : k ≤ length order
  pub room : length order < length starts
  pub small : at ≤ k * 8
  pub is : at ≡ sum_of f (take k order)
  pub done : (d : ℕ) → d ≤ k → get_or starts d 0 ≡ sum_of f (take d order)

module _ (f : ℕ → ℕ) (order starts : List ℕ) where
  pub summing_start : length order < length starts → Summing f order (set starts 0 0) 0 0
  unfolding sum_of
  summing_start r = record {
    within = omega arith;
    room = rw length-set r;
    small = omega arith;
    is = refl;
    done = λ d h.
        let e : d ≡ 0 = omega arith in
        rw (e, get_or-set_same starts 0 0 0 (omega arith));
  }

  module _ (at k : ℕ) (v : Summing f order starts at k) where
    pub summing-step :
        k < length order →
        (a : ℕ) →
        a ≡ f (get_or order k 0) →
        a ≤ 8 →
        Summing f order (set starts (k + 1) (at + a)) (at + a) (k + 1)
    summing-step h a e m = record {
      within = omega arith;
      room = rw length-set v.room;
      small = omega (arith, v.small);
      is = now;
      done = λ d l. go d l (ℕ_discrete d (k + 1));
    }
      where
        now : at + a ≡ sum_of f (take (k + 1) order)
        now = omega (arith, v.is, sum_of-next f order k h)

        go : (d : ℕ) → d ≤ k + 1 → Dec (d ≡ k + 1) → get_or (set starts (k + 1) (at + a)) d 0 ≡ sum_of f (take d order)
        go d l (yes q) = rw (q, get_or-set_same starts (k + 1) (at + a) 0 (omega (arith, v.room))) now
        go d l (no q) = get_or-set_other starts (k + 1) d (at + a) 0 q ∙ v.done d (omega arith)

    pub summing-end : length order ≤ k → Sums f order starts
    summing-end h = record { room = v.room; is = λ d l. v.done d (omega arith) }
