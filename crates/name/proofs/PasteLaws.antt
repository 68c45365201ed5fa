-- Laws on a list into which another was pasted: what stood before it, what stands there now, and what stands past it.
-- Assumes nothing.
use Prim.Native.Nat.{ℕ, zero, suc, ◌+◌, ◌-◌, ◌≤◌, ◌<◌}
use mathlib.Core.Path.{◌≡◌, refl, sym, ap, ◌∙◌}
use mathlib.Core.List.{List, ◌++◌, append_assoc}
use native.Mathlib.Omega.{arith}
use lib.ListN.{length, get_or, take, drop, replicate, length-drop, length-append, take-append-drop, get_or-append}
use lib.Seq.{
  paste,
  drop-paste,
  length-take-le,
  take-append-le,
  drop-append-le,
  drop_at,
  drop-drop,
  get_or-take,
  get_or-append-add,
}

module _ {A : Type 0} where
  -- a part of the first of two lists
  part-append : (p q : List A) (a m : ℕ) → a + m ≤ length p → take m (drop a (p ++ q)) ≡ take m (drop a p)
  part-append p q a m h =
      ap (take m) (drop-append-le a p q (omega arith))
      ∙ take-append-le m (drop a p) q (omega (arith, length-drop a p))

  part-take : (n : ℕ) (l : List A) (a m : ℕ) → n ≤ length l → a + m ≤ n
      → take m (drop a (take n l)) ≡ take m (drop a l)
  part-take n l a m h k =
      sym (part-append (take n l) (drop n l) a m (omega (arith, length-take-le n l h)))
      ∙ ap (λ (r : List A). take m (drop a r)) (take-append-drop n l)

  module _ (d : List A) (from : ℕ) (v : List A) (k : ℕ) (h : from ≤ length d) (b : k ≤ length v) where
    -- a part before what was pasted
    pub part-paste-before : (a m : ℕ) → a + m ≤ from → take m (drop a (paste d from v k)) ≡ take m (drop a d)
    part-paste-before a m l =
        part-append (take from d ++ take k v) (drop (from + k) d) a m
        (omega (arith, length-append (take from d) (take k v), length-take-le from d h))
        ∙ part-append (take from d) (take k v) a m (omega (arith, length-take-le from d h))
        ∙ part-take from d a m h l

    -- a part of what was pasted
    pub part-paste : (a m : ℕ) → a + m ≤ k → take m (drop (from + a) (paste d from v k)) ≡ take m (drop a v)
    part-paste a m l =
        let rest : List A = drop (from + k) d in
        let e : drop from (paste d from v k) ≡ take k v ++ rest =
        ap (drop from) (append_assoc (take from d) (take k v) rest)
        ∙ drop_at (take from d) (take k v ++ rest) from (length-take-le from d h) in
        ap (take m) (sym (drop-drop a from (paste d from v k)) ∙ ap (drop a) e)
        ∙ part-append (take k v) rest a m (omega (arith, length-take-le k v b))
        ∙ part-take k v a m b l

    pub get_d-paste-before : (i : ℕ) (z : A) → i < from → get_or (paste d from v k) i z ≡ get_or d i z
    get_d-paste-before i z l =
        get_or-append (take from d ++ take k v) (drop (from + k) d) z i
        (omega (arith, length-append (take from d) (take k v), length-take-le from d h))
        ∙ get_or-append (take from d) (take k v) z i (omega (arith, length-take-le from d h))
        ∙ get_or-take from d i z l

    pub get_d-paste : (i : ℕ) (z : A) → i < k → get_or (paste d from v k) (from + i) z ≡ get_or v i z
    get_d-paste i z l =
        let n : length (take from d) ≡ from = length-take-le from d h in
        get_or-append (take from d ++ take k v) (drop (from + k) d) z (from + i)
        (omega (arith, length-append (take from d) (take k v), length-take-le k v b))
        ∙ ap (λ (j : ℕ). get_or (take from d ++ take k v) (j + i) z) (sym n)
        ∙ get_or-append-add (take from d) (take k v) i z
        ∙ get_or-take k v i z l

    -- what stands past what was pasted
    pub drop-paste-past : (n : ℕ) → from + k ≤ n → drop n (paste d from v k) ≡ drop n d
    drop-paste-past n l =
        let m : ℕ = n - (from + k) in
        let e : n ≡ from + k + m = omega arith in
        ap (λ (i : ℕ). drop i (paste d from v k)) e
        ∙ sym (drop-drop m (from + k) (paste d from v k))
        ∙ ap (drop m) (drop-paste d from v k h b)
        ∙ drop-drop m (from + k) d
        ∙ ap (λ (i : ℕ). drop i d) (sym e)

pub get_d-zeros : (n i : ℕ) → ◌≡◌ {A = ℕ} (get_or (replicate n 0) i 0) 0
get_d-zeros zero i = refl
get_d-zeros (suc n) zero = refl
get_d-zeros (suc n) (suc i) = get_d-zeros n i
