-- A walk over a row's children from the i-th on: one more, a stop, the end. Assumes nothing.
use mathlib.Core.Path.{◌≡◌, refl, ◌∙◌}
use mathlib.Core.Bool.{Bool}
use mathlib.Core.List.{List, [], ◌∷◌, map}
use Rattle.std.specs.List.{list_all}
use Rattle.std.proofs.lemmas.Grind.{get_or_default_zero}
use Prim.Native.Nat.{ℕ, ◌+◌, ◌<◌, ◌≤◌}
use native.Mathlib.Omega.{arith}
use native.Mathlib.Numerals.{add-one}
use lib.ListN.{length, get_or, drop}
use lib.Seq.{drop-cons, drop-length}
use Rattle.choice_rules.specs.Rows.{Child, all_of, sum_of}
use Rattle.price_passes.specs.Flat.{child_of, ChildIn, ChildrenIn}

pub drop-step : (xs : List ℕ) (i : ℕ) → i < length xs → drop i xs ≡ get_or xs i 0 ∷ drop (i + 1) xs
drop-step xs i h = rw (add-one, drop-cons xs i 0)

-- What an iterator's `all` answers.
pub all-of-list : (xs : List ℕ) (p : Child → Bool) → list_all (λ x. p (child_of x)) xs ≡ all_of p (map child_of xs)
unfolding all_of
all-of-list [] p = refl
all-of-list (x ∷ xs) p = rw (all-of-list xs p)

-- What holds of every child holds of one that an iterator gives.
pub child-item : (xs : List ℕ) (n x k : ℕ) → ChildrenIn n xs → k < length xs → x ≡ get_or xs k x → ChildIn n x
child-item xs n x k v h e l =
    let d : x ≡ get_or xs k 0 = e ∙ get_or_default_zero xs k x h in
    let w : get_or xs k 0 < n = v k h (omega arith) in
    omega arith

module _ (xs : List ℕ) (i : ℕ) where
  module _ (f : Child → ℕ) where
    pub sum-goes-on : i < length xs → sum_of f (map child_of (drop i xs)) ≡ f (child_of (get_or xs i 0))
        + sum_of f (map child_of (drop (i + 1) xs))
    unfolding sum_of
    sum-goes-on h = rw (drop-step xs i h)

    pub sum-ends : length xs ≤ i → i ≤ length xs → sum_of f (map child_of (drop i xs)) ≡ 0
    unfolding sum_of
    sum-ends h l = let e : i ≡ length xs = omega arith in rw (e, drop-length)
