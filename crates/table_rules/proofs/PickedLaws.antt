-- Laws of `picked` and `in_turn`: what they hold, that they hold nothing twice, and a loop's steps. Assumes nothing.
use Prim.Native.Nat.{ℕ, suc, zero, ◌+◌, ◌-◌, ◌≤◌, ◌<◌}
use mathlib.Core.Path.{◌≡◌, refl, ap, sym, ◌∙◌, subst}
use mathlib.Core.Bool.{Bool, true, false}
use mathlib.Core.List.{List, [], ◌∷◌, ◌++◌, append_assoc, append-nil}
use native.Mathlib.Omega.{arith}
use native.Mathlib.Nat.{sub-zero}
use native.Mathlib.Numerals.{add-one}
use native.Mathlib.Decide.{ℕ_discrete}
use lib.ListN.{length, get_or, take, drop, set, length-append, length-set, length-take}
use lib.Seq.{drop-length}
use Rattle.table_rules.specs.Order.{has, Apart, none, more, picked, in_turn}
use Rattle.table_rules.specs.Arrays.{belongs_to, held_by}
use Rattle.table_rules.proofs.HasLaws.{
  by-test,
  no_both,
  drop-step,
  take-set-last,
  has_first,
  has-later,
  has-cons,
  has-nil,
  has_either,
  has_left,
  has_right,
  has-false,
  apart-append,
}

module _ (p : ℕ → Bool) (i n : ℕ) where
  picked-cons-yes : p i ≡ true → picked p i (suc n) ≡ i ∷ picked p (suc i) n
  unfolding picked
  picked-cons-yes e = rw e

  picked-cons-no : p i ≡ false → picked p i (suc n) ≡ picked p (suc i) n
  unfolding picked
  picked-cons-no e = rw e

-- A number that was picked: where it lies, and that it passes.
pub record Passes (p : ℕ → Bool) (x i n : ℕ) : Type 0 where
  pub low : i ≤ x
  pub high : x < i + n
  pub passes : p x ≡ true

module _ (p : ℕ → Bool) where
  -- The steps of a loop over the numbers below n.
  module _ (i n : ℕ) where
    pub picked-yes : i < n → p i ≡ true → picked p i (n - i) ≡ i ∷ picked p (i + 1) (n - (i + 1))
    picked-yes h e =
        let m : n - i ≡ suc (n - (i + 1)) = omega arith in
        rw (m, add-one i) (picked-cons-yes p i (n - suc i) e)

    pub picked-no : i < n → p i ≡ false → picked p i (n - i) ≡ picked p (i + 1) (n - (i + 1))
    picked-no h e =
        let m : n - i ≡ suc (n - (i + 1)) = omega arith in
        rw (m, add-one i) (picked-cons-no p i (n - suc i) e)

    pub picked-end : n ≤ i → picked p i (n - i) ≡ []
    unfolding picked
    picked-end h = let m : n - i ≡ 0 = omega arith in rw m

  pub picked-has : (x i n : ℕ) → has x (picked p i n) ≡ true → Passes p x i n
  unfolding picked
  picked-has x i zero h = has-nil x h
  picked-has x i (suc n) h = by-test (p i)
      (λ e. has-cons x i (picked p (suc i) n) (rw (picked-cons-yes p i n e) at h)
      (λ d. record { low = omega arith; high = omega arith; passes = rw d at e })
      (λ t. later (picked-has x (suc i) n t)))
      (λ e. later (picked-has x (suc i) n (rw (picked-cons-no p i n e) at h)))
    where
      later : Passes p x (suc i) n → Passes p x i (suc n)
      later v = record { low = omega (arith, v.low); high = omega (arith, v.high); passes = v.passes }

  pub picked-finds : (x i n : ℕ) → i ≤ x → x < i + n → p x ≡ true → has x (picked p i n) ≡ true
  picked-finds x i zero l h e = absurd (omega arith)
  picked-finds x i (suc n) l h e =
      go (ℕ_discrete i x) (λ d. picked-finds x (suc i) n (omega arith) (omega arith) e)
    where
      go : Dec (i ≡ x) → ((i ≡ x → ⊥) → has x (picked p (suc i) n) ≡ true) → has x (picked p i (suc n)) ≡ true
      go (yes d) later = rw (picked-cons-yes p i n (rw d e)) (has_first x i (picked p (suc i) n) d)
      go (no d) later = by-test (p i)
          (λ t. rw (picked-cons-yes p i n t) (has-later x i (picked p (suc i) n) (later d)))
          (λ t. rw (picked-cons-no p i n t) (later d))

  pub picked_apart : (m i n : ℕ) → i + n ≤ m → Apart m (picked p i n)
  unfolding picked
  picked_apart m i zero l = none
  picked_apart m i (suc n) l =
      let r = picked_apart m (suc i) n (omega arith) in
      by-test (p i)
      (λ e. rw (picked-cons-yes p i n e) (more {x = i} (omega arith)
      (has-false i (picked p (suc i) n) (λ h. omega (arith, (picked-has i (suc i) n h).low))) r))
      (λ e. rw (picked-cons-no p i n e) r)

-- What is picked goes by what the test says of the numbers asked.
pub picked_same :
    (p q : ℕ → Bool) (i n : ℕ) → ((x : ℕ) → i ≤ x → x < i + n → p x ≡ q x) → picked p i n ≡ picked q i n
unfolding picked
picked_same p q i zero h = refl
picked_same p q i (suc n) h =
    let e = h i (omega arith) (omega arith) in
    let r = picked_same p q (suc i) n (λ x l t. h x (omega arith) (omega arith)) in
    rw (e, r)

module _ (give : ℕ → List ℕ) where
  pub in_turn-has :
      (x : ℕ) (l : List ℕ) → has x (in_turn give l) ≡ true → (y : ℕ) × (has y l ≡ true) × (has x (give y) ≡ true)
  unfolding in_turn
  in_turn-has x [] h = has-nil x h
  in_turn-has x (k ∷ ks) h = has_either x (give k) (in_turn give ks) h
      (λ t. (k, has_first k k ks refl, t))
      (λ t. let r = in_turn-has x ks t in (r.0, has-later r.0 k ks r.1, r.2))

  pub in_turn-finds :
      (x y : ℕ) (l : List ℕ) → has y l ≡ true → has x (give y) ≡ true → has x (in_turn give l) ≡ true
  unfolding in_turn
  in_turn-finds x y [] h t = has-nil y h
  in_turn-finds x y (k ∷ ks) h t = has-cons y k ks h
      (λ e. has_left x (give k) (in_turn give ks) (rw e t))
      (λ u. has_right x (give k) (in_turn give ks) (in_turn-finds x y ks u t))

  -- Different keys that give different numbers, each of them once, give no number twice.
  pub in_turn-apart :
      (n s : ℕ) (l : List ℕ) →
      Apart s l →
      ((y : ℕ) → Apart n (give y)) →
      ((x y z : ℕ) → has x (give y) ≡ true → has x (give z) ≡ true → y ≡ z) →
      Apart n (in_turn give l)
  unfolding in_turn
  in_turn-apart n s [] none a d = none
  in_turn-apart n s (k ∷ ks) (more lk hk r) a d =
      apart-append n (give k) (in_turn give ks) (a k) (in_turn-apart n s ks r a d)
      (λ x h. has-false x (in_turn give ks) (λ t.
      let w = in_turn-has x ks t in
      no_both (has k ks) (subst (λ (y : ℕ). has y ks ≡ true) (sym (d x k w.0 h w.2)) w.1) hk))

-- A loop that appends to a list what is picked below n, after what was there.
pub record Appends (p : ℕ → Bool) (n : ℕ) (wanted list : List ℕ) (m x : ℕ) : Type 0 where
  pub at : x ≤ n
  pub room : m ≤ length list
  pub is : take m list ++ picked p x (n - x) ≡ wanted

module _ (p : ℕ → Bool) (n : ℕ) (wanted list : List ℕ) (m x : ℕ) (v : Appends p n wanted list m x) where
  pub appends-end : n ≤ x → take m list ≡ wanted
  appends-end h = sym (append-nil (take m list)) ∙ rw (picked-end p x n h) at v.is

  module _ (l : x < n) where
    pub appends-no : p x ≡ false → Appends p n wanted list m (x + 1)
    appends-no e = record { at = omega arith; room = v.room; is = rw (picked-no p x n l e) at v.is }

    module _ (e : p x ≡ true) where
      pub appends-room : length wanted ≤ length list → m < length list
      appends-room h =
          let t = rw (picked-yes p x n l e) at v.is in
          omega (arith, simp (length-append, length-take) at (ap length t), v.room)

      pub appends-yes : m < length list → Appends p n wanted (set list m x) (m + 1) (x + 1)
      appends-yes r = record {
        at = omega arith;
        room = rw length-set (omega arith);
        is = rw (take-set-last list m x r, append_assoc) (rw (picked-yes p x n l e) at v.is);
      }

module _ (keys barred : List ℕ) (n key : ℕ) (list : List ℕ) (at : ℕ)
    (fits : at + length (held_by keys barred n key) ≤ length list) where
  pub appends-start :
      Appends (belongs_to keys barred key) n (take at list ++ held_by keys barred n key) list at 0
  unfolding held_by
  appends-start = record { at = omega arith; room = omega arith; is = rw sub-zero }

  pub appends-fits : length (take at list ++ held_by keys barred n key) ≤ length list
  appends-fits = simp (length-append, length-take) (omega arith)

-- A loop that appends what each key gives.
pub record Gathers (give : ℕ → List ℕ) (order list : List ℕ) (m i : ℕ) : Type 0 where
  pub at : i ≤ length order
  pub room : m ≤ length list
  pub is : take m list ++ in_turn give (drop i order) ≡ in_turn give order

module _ (give : ℕ → List ℕ) (order list : List ℕ) (m i : ℕ) (v : Gathers give order list m i) where
  pub gathers-end : length order ≤ i → take m list ≡ in_turn give order
  unfolding in_turn
  gathers-end h =
      let e : i ≡ length order = omega (arith, v.at) in
      sym (append-nil (take m list)) ∙ rw (e, drop-length) at v.is

  module _ (l : i < length order) where
    pub gathers-step : take m list ++ (give (get_or order i 0) ++ in_turn give (drop
        (i + 1) order)) ≡ in_turn give order
    unfolding in_turn
    gathers-step = rw (drop-step order i l) at v.is

    pub gathers-room :
        length (in_turn give order) ≤ length list → m + length (give (get_or order i 0)) ≤ length list
    gathers-room h = omega (arith, simp (length-append, length-take) at (ap length gathers-step), v.room)

    pub gathers-on :
        (list' : List ℕ) (m' : ℕ) →
        m' ≤ length list' →
        take m' list' ≡ take m list ++ give (get_or order i 0) →
        Gathers give order list' m' (i + 1)
    gathers-on list' m' r e = record {
      at = omega arith;
      room = r;
      is = rw (e, append_assoc) gathers-step;
    }
