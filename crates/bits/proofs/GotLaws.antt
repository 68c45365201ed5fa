-- Laws of readings: what holds of whatever is read, and the loop that reads many things. Assumes nothing.
use Prim.Native.Nat.{ℕ, zero, suc, ◌+◌, ◌-◌, ◌≤◌, ◌<◌}
use mathlib.Core.List.{List, [], ◌∷◌, ◌++◌}
use mathlib.Core.Bool.{Bool, true, false}
use mathlib.Core.Path.{◌≡◌, refl}
use native.Mathlib.Omega.{arith}
use lib.ListN.{length, length-append}
use Rattle.refusal.specs.declared.Refusal.{Refusal}
use Rattle.bits.specs.Got.{Got, got, refused, then, must, pick, many}

-- P holds of whatever is read.
pub data All {A : Type 0} (P : A → ℕ → Type 0) : Got A → Type 0 where
  all-got : {a : A} {k : ℕ} → P a k → All P (got a k)
  all-refused : {r : Refusal} → All P (refused r)

module _ {A : Type 0} {P : A → ℕ → Type 0} where
  pub all-at : {a : A} {k : ℕ} → All P (got a k) → P a k
  all-at (all-got h) = h

  pub all_of : (g : Got A) → ((a : A) (k : ℕ) → g ≡ got a k → P a k) → All P g
  all_of (got a k) h = all-got (h a k refl)
  all_of (refused r) h = all-refused

  pub all_then : {B : Type 0} (g : Got B) (f : B → ℕ → Got A) → ((b : B) (k : ℕ) → g ≡ got b k → All P (f b k))
      → All P (then g f)
  unfolding then
  all_then (got b k) f h = h b k refl
  all_then (refused r) f h = all-refused

  pub all-must : (b : Bool) (r : Refusal) (g : Got A) → (b ≡ true → All P g) → All P (must b r g)
  unfolding must
  all-must true r g h = h refl
  all-must false r g h = all-refused

  pub all-pick : (b : Bool) (g h : Got A) → (b ≡ true → All P g) → (b ≡ false → All P h) → All P (pick b g h)
  unfolding pick
  all-pick true g h p q = p refl
  all-pick false g h p q = q refl

pub all_map : {A : Type 0} {P Q : A → ℕ → Type 0} {g : Got A} → ((a : A) (k : ℕ) → P a k → Q a k) → All P g → All Q g
all_map f (all-got h) = all-got (f _ _ h)
all_map f all-refused = all-refused

-- What the start has and each thing keeps, all of them have.
pub many-all : {A : Type 0} (f : List A → ℕ → Got A) (P : List A → ℕ → Type 0)
    → ((xs : List A) (p : ℕ) → P xs p → All (λ x q. P (xs ++ (x ∷ [])) q) (f xs p))
    → (n at : ℕ) (xs : List A) → P xs at → All P (many f n at xs)
unfolding many
many-all f P keep zero at xs h = all-got h
many-all f P keep (suc n) at xs h =
    all_then (f xs at) _ (λ x p e. many-all f P keep n p (xs ++ (x ∷ [])) (all-at (rw e at (keep xs at h))))

count_by : {A : Type 0} (f : List A → ℕ → Got A) (n m at : ℕ) (xs : List A) → length xs + n ≡ m
    → All (λ ys k. length ys ≡ m) (many f n at xs)
unfolding many
count_by f zero m at xs e =
    let h : length xs ≡ m = omega arith in
    all-got h
count_by f (suc n) m at xs e =
    all_then (f xs at) _ (λ x p _. count_by f n m p (xs ++ (x ∷ [])) (simp length-append (omega arith)))

-- As many things as were asked for.
pub many-length : {A : Type 0} (f : List A → ℕ → Got A) (n at : ℕ) {xs : List A} {k : ℕ} → many f n at [] ≡ got xs k
    → length xs ≡ n
many-length f n at e = all-at (rw e at (count_by f n n at [] (omega arith)))

-- The loop over n things from position at: i of them, those of xs, are read up to p, and the rest gives what the whole
-- gives.
pub record Loop {A : Type 0} (f : List A → ℕ → Got A) (n at p i : ℕ) (xs : List A) : Type 0 where
  pub some : length xs ≡ i
  pub within : i ≤ n
  pub rest : many f (n - i) p xs ≡ many f n at []

module _ {A : Type 0} {f : List A → ℕ → Got A} {n at : ℕ} where
  pub loop-start : Loop f n at at 0 []
  loop-start =
      let m : n - 0 ≡ n = omega arith in
      record { some = refl; within = omega arith; rest = rw m }

  module _ {p i : ℕ} {xs : List A} (l : Loop f n at p i xs) where
    pub loop-more : {x : A} {q : ℕ} → i < n → f xs p ≡ got x q → Loop f n at q (i + 1) (xs ++ (x ∷ []))
    unfolding many then
    loop-more {x} {q} h e =
        let m : n - i ≡ suc (n - (i + 1)) = omega arith in
        record {
          some = simp length-append (omega arith);
          within = omega arith;
          rest = rw (m, e) at l.rest;
        }

    pub loop-refuses : {r : Refusal} → i < n → f xs p ≡ refused r → many f n at [] ≡ refused r
    unfolding many then
    loop-refuses h e =
        let m : n - i ≡ suc (n - (i + 1)) = omega arith in
        rw (← l.rest, m, e)

    pub loop-ends : n ≤ i → many f n at [] ≡ got xs p
    unfolding many
    loop-ends h =
        let m : n - i ≡ 0 = omega arith in
        rw (← l.rest, m)
