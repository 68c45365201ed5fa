-- The cells of a row, read down its columns, are read as lists are: cell by cell, each after those before it. Assumes
-- nothing.
use Prim.Native.Nat.{ℕ, ◌+◌}
use mathlib.Core.List.{List, [], ◌∷◌, ◌++◌, append_assoc, append-nil}
use mathlib.Core.Path.{◌≡◌, refl, sym, ap, ◌∙◌}
use lib.ListN.{length, get_or, length-append}
use lib.Seq.{get_or-append_seam}
use Rattle.bits.specs.Got.{Got, got, refused, then, many}
use Rattle.file_rules.specs.Table.{Sort}
use Rattle.file_rules.specs.Rows.{range, cell_at, cells_at}

then_same :
    {A B : Type 0} (g : Got A) (f h : A → ℕ → Got B) → ((a : A) (k : ℕ) → f a k ≡ h a k) → then g f ≡ then g h
unfolding then
then_same (got a k) f h e = e a k
then_same (refused r) f h e = refl

then-then :
    {A B C : Type 0} (g : Got A) (f : A → ℕ → Got B) (h : B → ℕ → Got C) →
    then (then g f) h ≡ then g (λ a k. then (f a k) h)
unfolding then
then-then (got a k) f h = refl
then-then (refused r) f h = refl

then-got : {A : Type 0} (g : Got A) → then g (λ a k. got a k) ≡ g
unfolding then
then-got (got a k) = refl
then-got (refused r) = refl

module _ (s : List ℕ) (sorts : List Sort) (l : ℕ) where
  -- the cell after those of xs, of a row whose columns have the sorts ks
  abbrev pub cell_after : List ℕ → List ℕ → ℕ → Got ℕ
  cell_after ks xs p = cell_at s (range sorts l (get_or ks (length xs) 0)) p

  -- the cells of the columns ks, after those of `before`, which are xs
  cells-after :
      (ks before xs : List ℕ) (at : ℕ) →
      length xs ≡ length before →
      many (cell_after (before ++ ks)) (length ks) at xs ≡ then (cells_at s sorts l ks at) (λ ys q. got (xs ++ ys) q)
  unfolding many cells_at then
  cells-after [] before xs at e = ap (λ (zs : List ℕ). got zs at) (sym (append-nil xs))
  cells-after (k ∷ ks) before xs at e =
      let column : get_or (before ++ (k ∷ ks)) (length xs) 0 ≡ k =
      ap (λ (j : ℕ). get_or (before ++ (k ∷ ks)) j 0) e ∙ get_or-append_seam before k ks 0 in
      let more : (x p : ℕ) → many (cell_after (before ++ (k ∷ ks))) (length ks) p (xs ++ (x ∷ []))
      ≡ then (then (cells_at s sorts l ks p) (λ ys q. got (x ∷ ys) q)) (λ ys q. got (xs ++ ys) q) =
      λ x p.
      ap (λ (js : List ℕ). many (cell_after js) (length ks) p (xs ++ (x ∷ []))) (sym (append_assoc before (k ∷ []) ks))
      ∙ cells-after ks (before ++ (k ∷ [])) (xs ++ (x ∷ [])) p
      (length-append xs (x ∷ []) ∙ ap (λ (j : ℕ). j + 1) e ∙ sym (length-append before (k ∷ [])))
      ∙ then_same (cells_at s sorts l ks p) _ _ (λ ys q. ap (λ (zs : List ℕ). got zs q) (append_assoc xs (x ∷ []) ys))
      ∙ sym (then-then (cells_at s sorts l ks p) (λ ys q. got (x ∷ ys) q) (λ ys q. got (xs ++ ys) q)) in
      ap
      (λ (j : ℕ). then (cell_at s (range sorts l j) at)
      (λ x p. many (cell_after (before ++ (k ∷ ks))) (length ks) p (xs ++ (x ∷ []))))
      column
      ∙ then_same (cell_at s (range sorts l k) at) _ _ more
      ∙ sym
      (then-then (cell_at s (range sorts l k) at) (λ x p. then (cells_at s sorts l ks p) (λ ys q. got (x ∷ ys) q))
      (λ ys q. got (xs ++ ys) q))

  pub cells-many : (ks : List ℕ) (at : ℕ) → cells_at s sorts l ks at ≡ many (cell_after ks) (length ks) at []
  cells-many ks at = sym (cells-after ks [] [] at refl ∙ then-got (cells_at s sorts l ks at))
