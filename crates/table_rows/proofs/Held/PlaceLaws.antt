-- What stands at a place of an array: a list from the front, or blocks of one length. Assumes nothing.
use Prim.Native.Nat.{ℕ, suc, ◌+◌, ◌-◌, ◌*◌, ◌≤◌, ◌<◌}
use mathlib.Core.Path.{◌≡◌, ap, sym, ◌∙◌}
use mathlib.Core.List.{List, ◌++◌, append_assoc, map}
use native.Mathlib.Omega.{arith}
use native.Mathlib.Decide.{dec_lt}
use lib.ListN.{length, get_or, take, drop, replicate, get_or-map, get_or-append, get_or-eq_default}
use lib.Seq.{get_or-append-add, get_or-drop, take-append-le, take-append_seam}
use Rattle.choice_rules.proofs.ListLaws.{replicate-get}
use Rattle.file_rules.specs.Every.{Every}
use Rattle.file_rules.specs.Arrays.{pad_with, pad, blocks}
use Rattle.file_rules.proofs.ArraysLaws.{pad_with-length}
use Rattle.file_rules.proofs.BlockLaws.{every_map, blocks-drop}

-- The array has at each place what the list has, and zeros past it.
pub pad-get : (n : ℕ) (xs : List ℕ) (i : ℕ) → get_or (pad n xs) i 0 ≡ get_or xs i 0
unfolding pad_with
pad-get n xs i = go (dec_lt i (length xs))
  where
    go : Dec (i < length xs) → get_or (xs ++ replicate (n - length xs) 0) i 0 ≡ get_or xs i 0
    go (yes h) = get_or-append xs (replicate (n - length xs) 0) 0 i h
    go (no h) =
        let e : i ≡ length xs + (i - length xs) = omega arith in
        ap (λ (k : ℕ). get_or (xs ++ replicate (n - length xs) 0) k 0) e
        ∙ get_or-append-add xs (replicate (n - length xs) 0) (i - length xs) 0
        ∙ replicate-get (n - length xs) (i - length xs)
        ∙ sym (get_or-eq_default xs 0 (omega arith))

module _ {A : Type 0} (f : A → ℕ) (d : A) (none : f d ≡ 0) where
  pub pad-map-get : (n : ℕ) (xs : List A) (i : ℕ) → get_or (pad n (map f xs)) i 0 ≡ f (get_or xs i d)
  pad-map-get n xs i =
      pad-get n (map f xs) i
      ∙ ap (λ (z : ℕ). get_or (map f xs) i z) (sym none)
      ∙ get_or-map f xs i d

pub pad-take : (n s : ℕ) (xs : List ℕ) → s ≤ length xs → take s (pad n xs) ≡ take s xs
unfolding pad_with
pad-take n s xs h = take-append-le s xs (replicate (n - length xs) 0) h

-- Blocks of m places, each filled up with zeros.
module _ {A : Type 0} (n m : ℕ) (g : A → List ℕ) (xs : List A) (most : Every (λ (x : A). length (g x) ≤ m) xs)
    (d : A) where
  block-drop :
      (k : ℕ) → k < length xs →
      (rest : List ℕ) × (drop (k * m) (pad n (blocks (λ (x : A). pad m (g x)) xs)) ≡ g (get_or xs k d) ++ rest)
  unfolding pad_with
  block-drop k h =
      let b : List ℕ = blocks (λ (x : A). pad m (g x)) xs in
      let z : List ℕ = replicate (n - length b) 0 in
      let r : List ℕ = blocks (λ (x : A). pad m (g x)) (drop (suc k) xs) in
      let e = blocks-drop (λ (x : A). pad m (g x)) m (every_map (λ x l. pad_with-length 0 m
      (g x) l) most) k d z h in (
        replicate (m - length (g (get_or xs k d))) 0 ++ (r ++ z),
        e ∙ append_assoc (g (get_or xs k d)) (replicate (m - length (g (get_or xs k d))) 0) (r ++ z),
      )

  pub block-take :
      (k : ℕ) → k < length xs →
      take (length (g (get_or xs k d))) (drop (k * m) (pad n (blocks (λ (x : A). pad m (g x)) xs))) ≡ g (get_or xs k d)
  block-take k h =
      let b = block-drop k h in
      rw b.1 (take-append_seam (g (get_or xs k d)) b.0)

  pub block-get :
      (k j : ℕ) → k < length xs → j < length (g (get_or xs k d)) →
      get_or (pad n (blocks (λ (x : A). pad m (g x)) xs)) (k * m + j) 0 ≡ get_or (g (get_or xs k d)) j 0
  block-get k j h l =
      let b = block-drop k h in
      sym (get_or-drop (k * m) (pad n (blocks (λ (x : A). pad m (g x)) xs)) j 0)
      ∙ ap (λ (x : List ℕ). get_or x j 0) b.1
      ∙ get_or-append (g (get_or xs k d)) b.0 0 j l
