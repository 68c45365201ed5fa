-- Laws of lists in arrays. Assumes nothing.
use Prim.Native.Nat.{ℕ, suc, ◌+◌, ◌-◌, ◌<◌, ◌≤◌}
use mathlib.Core.List.{List, [], ◌∷◌, ◌++◌, map, map-append}
use mathlib.Core.Path.{◌≡◌, sym, ◌∙◌}
use native.Mathlib.Omega.{arith}
use lib.ListN.{length, replicate, set, get_or, length-append, length-map, length-replicate, get_or-append}
use lib.Seq.{set_at, append_snoc, sets}
use Rattle.file_rules.specs.Arrays.{pad_with, pad}

pub pad_with-nil : {A : Type 0} (z : A) (n : ℕ) → pad_with z n [] ≡ replicate n z
unfolding pad_with
pad_with-nil z n =
    let m : n - 0 ≡ n = omega arith in
    rw m

pub pad_with-length : {A : Type 0} (z : A) (n : ℕ) (xs : List A) → length xs ≤ n → length (pad_with z n xs) ≡ n
unfolding pad_with
pad_with-length z n xs h = rw (length-append, length-replicate) (omega arith)

-- What stands at a place of the list stands there in the array.
pub pad_with-get : {A : Type 0} (z : A) (n : ℕ) (xs : List A) (i : ℕ) (d : A) → i < length xs
    → get_or (pad_with z n xs) i d ≡ get_or xs i d
unfolding pad_with
pad_with-get z n xs i d h = get_or-append xs _ d i h

-- One element more.
pub pad_with-set : {A : Type 0} (z : A) (n : ℕ) (xs : List A) (i : ℕ) (v : A) → length xs ≡ i → i < n
    → set (pad_with z n xs) i v ≡ pad_with z n (xs ++ (v ∷ []))
unfolding pad_with
pad_with-set z n xs i v e h =
    let d : n - length xs ≡ suc (n - suc (length xs)) = omega arith in
    let f : n - length (xs ++ (v ∷ [])) ≡ n - suc (length xs) = simp length-append (omega arith) in
    rw (d, f, set_at xs z (replicate (n - suc (length xs)) z) v i e) (sym (append_snoc xs v _))

pub pad-set-map : {A : Type 0} (n : ℕ) (f : A → ℕ) (xs : List A) (i : ℕ) (x : A) {v : ℕ} → length xs ≡ i → i < n
    → f x ≡ v
    → set (pad n (map f xs)) i v ≡ pad n (map f (xs ++ (x ∷ [])))
pad-set-map n f xs i x e h d = rw (map-append, ← d) (pad_with-set 0 n (map f xs) i (f x) (length-map xs f ∙ e) h)

-- One store more in a run of stores.
pub sets-snoc : (l : List ℕ) (i : ℕ) (vs : List ℕ) (v : ℕ)
    → sets l i (vs ++ (v ∷ [])) ≡ set (sets l i vs) (i + length vs) v
sets-snoc l i [] v =
    let e : i + 0 ≡ i = omega arith in
    rw e
sets-snoc l i (x ∷ vs) v =
    let e : i + suc (length vs) ≡ suc i + length vs = omega arith in
    rw e (sets-snoc (set l i x) (suc i) vs v)
