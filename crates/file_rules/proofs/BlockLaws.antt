-- Laws of lists of blocks in an array, and of what holds of every element of a list. Assumes nothing.
use Prim.Native.Nat.{ℕ, zero, suc, ◌+◌, ◌-◌, ◌*◌, ◌<◌, ◌≤◌}
use mathlib.Core.List.{List, [], ◌∷◌, ◌++◌, append_assoc, append-nil}
use mathlib.Core.Path.{◌≡◌, ap}
use native.Mathlib.Nat.{suc-mul}
use native.Mathlib.Omega.{arith}
use lib.ListN.{length, replicate, take, drop, get_or, length-append, length-replicate, replicate-append-replicate}
use lib.Seq.{drop-append-add, take_at, drop_at}
use Rattle.file_rules.specs.Every.{Every, every-nil, every-cons}
use Rattle.file_rules.specs.Arrays.{pad_with, pad, blocks}

module _ {A : Type 0} {P : A → Type 0} where
  pub every-snoc : {xs : List A} {x : A} → Every P xs → P x → Every P (xs ++ (x ∷ []))
  every-snoc every-nil p = every-cons p every-nil
  every-snoc (every-cons q h) p = every-cons q (every-snoc h p)

  pub every_get : {xs : List A} → Every P xs → (k : ℕ) (d : A) → k < length xs → P (get_or xs k d)
  every_get every-nil k d l = let z : ⊥ = omega arith in absurd z
  every_get (every-cons p h) zero d l = p
  every_get (every-cons p h) (suc k) d l = every_get h k d (omega arith)

  pub every_map : {Q : A → Type 0} {xs : List A} → ((x : A) → P x → Q x) → Every P xs → Every Q xs
  every_map f every-nil = every-nil
  every_map f (every-cons p h) = every-cons (f _ p) (every_map f h)

module _ {A : Type 0} (f : A → List ℕ) where
  pub blocks-snoc : (xs : List A) (x : A) → blocks f (xs ++ (x ∷ [])) ≡ blocks f xs ++ f x
  unfolding blocks
  blocks-snoc [] x = append-nil (f x)
  blocks-snoc (y ∷ xs) x = rw (blocks-snoc xs x, append_assoc)

  module _ (m : ℕ) where
    pub blocks-length : {xs : List A} → Every (λ (x : A). length (f x) ≡ m) xs → length (blocks f xs) ≡ length xs * m
    unfolding blocks
    blocks-length every-nil = omega arith
    blocks-length (every-cons {x = x} {xs = xs} e h) =
        rw (length-append, e, blocks-length h, suc-mul) (omega arith)

    -- Block k, with what follows it.
    pub blocks-drop : {xs : List A} → Every (λ (x : A). length (f x) ≡ m) xs → (k : ℕ) (d : A) (z : List ℕ)
        → k < length xs
        → drop (k * m) (blocks f xs ++ z) ≡ f (get_or xs k d) ++ (blocks f (drop (suc k) xs) ++ z)
    unfolding blocks
    blocks-drop every-nil k d z l = let n : ⊥ = omega arith in absurd n
    blocks-drop (every-cons {x = x} {xs = xs} e h) zero d z l =
        let o : 0 * m ≡ 0 = omega arith in
        rw (o, append_assoc)
    blocks-drop (every-cons {x = x} {xs = xs} e h) (suc k) d z l =
        let o : suc k * m ≡ length (f x) + k * m = rw (suc-mul, e) (omega arith) in
        rw (o, append_assoc, drop-append-add) (blocks-drop h k d z (omega arith))

drop-replicate : (j k z : ℕ) → drop j (replicate (j + k) z) ≡ replicate k z
drop-replicate j k z = rw (← replicate-append-replicate j k z) (drop_at (replicate j z) _ j (length-replicate j z))

-- One block more in an array: what a store of the block leaves.
pub pad-block : (n : ℕ) (xs ys : List ℕ) (at e : ℕ) → length xs ≡ at → at + length ys ≡ e → e ≤ n
    → take at (pad n xs) ++ ys ++ drop e (pad n xs) ≡ pad n (xs ++ ys)
unfolding pad_with
pad-block n xs ys at e a b l =
    let j : n - at ≡ length ys + (n - e) = omega arith in
    let k : e ≡ length xs + length ys = omega arith in
    let m : n - length (xs ++ ys) ≡ n - e = simp length-append (omega arith) in
    let q : n - (at + length ys) ≡ n - e = omega arith in
    rw (take_at xs _ at a, m, k, drop-append-add xs, a, j, drop-replicate, q)

-- A block that is filled up with zeros is the same in an array.
pub pad-of-pad : (n m : ℕ) (xs ys : List ℕ) → length ys ≤ m → length xs + m ≤ n
    → pad n (xs ++ pad m ys) ≡ pad n (xs ++ ys)
unfolding pad_with
pad-of-pad n m xs ys a b =
    let z : List ℕ = replicate (m - length ys) 0 in
    let h : n - length (xs ++ (ys ++ z)) ≡ n - (length xs + m) =
    ap (λ (k : ℕ). n - k) (rw (length-append, length-append, length-replicate) (omega arith)) in
    let k : n - length (xs ++ ys) ≡ (m - length ys) + (n - (length xs + m)) = rw length-append (omega arith) in
    rw (h, k, append_assoc xs, append_assoc ys, append_assoc xs, replicate-append-replicate)
