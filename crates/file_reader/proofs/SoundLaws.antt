-- The arrays of functions that were read are in range. Assumes nothing.
use Prim.Native.Nat.{ℕ, zero, suc, ◌-◌, ◌≤◌, ◌<◌}
use mathlib.Core.List.{List, [], ◌∷◌, ◌++◌, map}
use native.Mathlib.Omega.{arith}
use lib.ListN.{length, get_or, replicate}
use Rattle.file_rules.specs.Table.{Function}
use Rattle.file_rules.specs.Every.{Every, every-nil, every-cons}
use Rattle.file_rules.specs.Accepted.{FunctionOk}
use Rattle.file_rules.specs.Arrays.{pad_with, pad, blocks, HoldsFunctions}
use Rattle.file_rules.proofs.BlockLaws.{every_map}
use Rattle.file_rows.specs.In.{Below, Sound}

below-append : {n : ℕ} (xs ys : List ℕ) → Below n xs → Below n ys → Below n (xs ++ ys)
below-append {n} xs ys a b = record { below = by xs a.below }
  where
    by : (xs : List ℕ) → ((k : ℕ) → get_or xs k 0 < n) → (k : ℕ) → get_or (xs ++ ys) k 0 < n
    by [] h k = b.below k
    by (x ∷ xs) h zero = h 0
    by (x ∷ xs) h (suc k) = by xs (λ j. h (suc j)) k

below-zeros : {n : ℕ} → 0 < n → (m : ℕ) → Below n (replicate m 0)
below-zeros {n} h m = record { below = by m }
  where
    by : (m k : ℕ) → get_or (replicate m 0) k 0 < n
    by zero k = h
    by (suc m) zero = h
    by (suc m) (suc k) = by m k

below-pad : {n : ℕ} → 0 < n → (m : ℕ) (xs : List ℕ) → Below n xs → Below n (pad m xs)
unfolding pad_with
below-pad h m xs b = below-append xs (replicate (m - length xs) 0) b (below-zeros h (m - length xs))

below-map : {A : Type 0} {n : ℕ} {f : A → ℕ} {xs : List A} → 0 < n → Every (λ (x : A). f x < n) xs → Below n (map f xs)
below-map {A} {n} {f} h e = record { below = by e }
  where
    by : {xs : List A} → Every (λ (x : A). f x < n) xs → (k : ℕ) → get_or (map f xs) k 0 < n
    by every-nil k = h
    by (every-cons p e) zero = p
    by (every-cons p e) (suc k) = by e k

below-list : {n : ℕ} {xs : List ℕ} → 0 < n → Every (λ (x : ℕ). x < n) xs → Below n xs
below-list {n} h e = record { below = by e }
  where
    by : {xs : List ℕ} → Every (λ (x : ℕ). x < n) xs → (k : ℕ) → get_or xs k 0 < n
    by every-nil k = h
    by (every-cons p e) zero = p
    by (every-cons p e) (suc k) = by e k

below-blocks : {A : Type 0} {n : ℕ} (f : A → List ℕ) {xs : List A} → 0 < n → Every (λ (x : A). Below n (f x)) xs
    → Below n (blocks f xs)
unfolding blocks
below-blocks f h every-nil = record { below = λ k. h }
below-blocks f h (every-cons {x = x} {xs = xs} p e) = below-append (f x) (blocks f xs) p (below-blocks f h e)

-- Functions over fewer than 32 sorts, in their arrays.
pub sound-of : {names declared costs unextractable hidden outputs arities arguments kinds : List ℕ}
    {fs : List Function}
    → HoldsFunctions names declared costs unextractable hidden outputs arities arguments fs
    → Every (FunctionOk kinds) fs
    → length kinds ≤ 31 → Sound outputs arities arguments
sound-of {kinds = kinds} {fs = fs} h e b =
    let z : 0 < 32 = omega arith in
    let y : 0 < 9 = omega arith in
    record {
      outputs_small =
          rw h.outputs_are
          (below-pad z 128 _ (below-map z
          (every_map (λ (f : Function) (o : FunctionOk kinds f). small o.known b) e)));
      arities_small =
          rw h.arities_are
          (below-pad y 128 _ (below-map y (every_map (λ (f : Function) (o : FunctionOk kinds f). few o.few) e)));
      arguments_small =
          rw h.arguments_are
          (below-pad z 1024 _
          (below-blocks (λ (f : Function). pad 8 f.arguments) z
          (every_map
          (λ (f : Function) (o : FunctionOk kinds f).
          below-pad z 8 _ (below-list z (every_map (λ (k : ℕ) (l : k < length kinds). small l b) o.sorted)))
          e)));
    }
  where
    small : {k n : ℕ} → k < n → n ≤ 31 → k < 32
    small l b = omega arith

    few : {k : ℕ} → k ≤ 8 → k < 9
    few l = omega arith
