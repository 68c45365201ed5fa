-- Laws of the four lists: they are the rows in the order, and rows as the relaxation asks them. Assumes nothing.
use Prim.Native.Nat.{ℕ, zero, suc, ◌+◌, ◌-◌, ◌≤◌, ◌<◌}
use mathlib.Core.Path.{◌≡◌, refl, ap, sym, ◌∙◌}
use mathlib.Core.List.{List, [], ◌∷◌, ◌++◌, append_assoc, map}
use native.Mathlib.Omega.{arith}
use native.Mathlib.Numerals.{add-one}
use lib.ListN.{length, get_or, take, drop, length-append, length-map, take-append-drop}
use lib.Seq.{ext_get_or, get_or-take, length-take-le, split_at, take-append_seam, drop-append_seam, take-suc}
use Rattle.choice_rules.specs.Rows.{Row, no_row, sum_of, tabulate}
use Rattle.choice_rules.proofs.ListLaws.{tabulate-length, tabulate-get}
use Rattle.price_passes.specs.Flat.{row_of, part_of, rows_of, ChildIn, FlatOk}
use Rattle.table_rules.specs.Order.{in_turn}
use Rattle.table_rules.specs.Arrays.{Filled}
use Rattle.table_flat.specs.Arrays.{Each, Mapped, Sums}
use Rattle.table_flat.proofs.FillLaws.{map_get}

each_append : (P : ℕ → Type 0) (a b : List ℕ) → Each P a → Each P b → Each P (a ++ b)
each_append P [] b v w k d = w k d
each_append P (y ∷ a) b v w zero d = v 0 (omega arith)
each_append P (y ∷ a) b v w (suc k) d = each_append P a b (λ i e. v (suc i) (omega arith)) w k (omega arith)

module _ (give : ℕ → List ℕ) where
  pub in_turn-append : (l r : List ℕ) → in_turn give (l ++ r) ≡ in_turn give l ++ in_turn give r
  unfolding in_turn
  in_turn-append [] r = refl
  in_turn-append (x ∷ l) r = rw (in_turn-append l r) (sym (append_assoc (give x) (in_turn give l) (in_turn give r)))

  -- What the number at place k gives stands after what the numbers before it give.
  pub in_turn-part :
      (l : List ℕ) (k : ℕ) →
      k < length l →
      take (length (give (get_or l k 0))) (drop (length (in_turn give (take k l))) (in_turn give l)) ≡ give (get_or l k 0)
  unfolding in_turn
  in_turn-part l k h =
      let e : in_turn give l ≡ in_turn give (take k l) ++ (give (get_or l k 0) ++ in_turn give (drop (suc k) l)) =
      ap (in_turn give) (split_at l k 0 h) ∙ in_turn-append (take k l) (get_or l k 0 ∷ drop (suc k) l) in
      ap (λ (x : List ℕ). take (length (give (get_or l k 0))) (drop (length (in_turn give (take k l))) x)) e
      ∙ ap (take (length (give (get_or l k 0))))
      (drop-append_seam (in_turn give (take k l)) (give (get_or l k 0) ++ in_turn give (drop (suc k) l)))
      ∙ take-append_seam (give (get_or l k 0)) (in_turn give (drop (suc k) l))

  -- Sums of lengths are lengths.
  pub in_turn-length :
      (f : ℕ → ℕ) (l : List ℕ) → Each (λ x. f x ≡ length (give x)) l → sum_of f l ≡ length (in_turn give l)
  unfolding in_turn sum_of
  in_turn-length f [] h = refl
  in_turn-length f (x ∷ l) h =
      let e = h 0 (omega arith) in
      let r = in_turn-length f l (λ k d. h (suc k) (omega arith)) in
      omega (arith, length-append (give x) (in_turn give l))

  -- What holds all through each list holds all through all of them.
  pub in_turn-each :
      (P : ℕ → Type 0) (l : List ℕ) → Each (λ x. Each P (give x)) l → Each P (in_turn give l)
  unfolding in_turn
  in_turn-each P [] h = λ k d. absurd (omega arith)
  in_turn-each P (x ∷ l) h =
      each_append P (give x) (in_turn give l) (h 0 (omega arith)) (in_turn-each P l (λ k d. h (suc k) (omega arith)))

each_take : (P : ℕ → Type 0) (l : List ℕ) (n : ℕ) → Each P l → n ≤ length l → Each P (take n l)
each_take P l n v h k d =
    let e : k < n = omega (arith, length-take-le n l h) in
    rw (get_or-take n l k 0 e) (v k (omega arith))

-- The four lists of an order.
module _ (o h a : ℕ → ℕ) (give : ℕ → List ℕ) (order classes heads starts children : List ℕ) (m : ℕ)
    (os : Mapped o order classes)
    (hs : Mapped h order heads)
    (ss : Sums a order starts)
    (cs : Filled children m (in_turn give order))
    (long : Each (λ r. a r ≡ length (give r)) order) where
  classes-length : length (take (length order) classes) ≡ length order
  classes-length = ap length os.is ∙ length-map order o

  classes-get : (k : ℕ) → k < length order → get_or (take (length order) classes) k 0 ≡ o (get_or order k 0)
  classes-get k l = ap (λ (x : List ℕ). get_or x k 0) os.is ∙ map_get o order k 0 l

  heads-get : (k : ℕ) → k < length order → get_or (take (length order) heads) k 0 ≡ h (get_or order k 0)
  heads-get k l = ap (λ (x : List ℕ). get_or x k 0) hs.is ∙ map_get h order k 0 l

  starts-get : (k : ℕ) → k ≤ length order → get_or (take (length order + 1) starts) k 0 ≡ length (in_turn give
      (take k order))
  starts-get k l =
      get_or-take (length order + 1) starts k 0 (omega arith)
      ∙ ss.is k l
      ∙ in_turn-length give a (take k order) (each_take (λ r. a r ≡ length (give r)) order k long l)

  starts-next :
      (k : ℕ) → k < length order →
      length (in_turn give (take (k + 1) order)) ≡ length (in_turn give (take k order)) + length (give
      (get_or order k 0))
  unfolding in_turn
  starts-next k l =
      let e : in_turn give (take (k + 1) order) ≡ in_turn give (take k order) ++ (give (get_or order k 0) ++ []) =
      rw (add-one, take-suc order k 0 l) (in_turn-append give (take k order) (get_or order k 0 ∷ [])) in
      ap length e ∙ simp length-append (omega arith)

  part-is : (k : ℕ) → k < length order → part_of (take (length order + 1) starts) (take m children) k ≡ give
      (get_or order k 0)
  part-is k l =
      let b = starts-get k (omega arith) in
      let e = starts-get (k + 1) (omega arith) in
      let n = starts-next k l in
      let d : get_or (take (length order + 1) starts) (k + 1) 0 - get_or (take (length order + 1) starts) k 0
      ≡ length (give (get_or order k 0)) = omega arith in
      rw (d, b, cs.held) (in_turn-part give order k l)

  abbrev laid_row : ℕ → Row
  laid_row i =
      row_of (get_or (take (length order) classes) i 0) (get_or (take (length order) heads) i 0)
      (part_of (take (length order + 1) starts) (take m children) i)

  abbrev wanted_row : ℕ → Row
  wanted_row r = row_of (o r) (h r) (give r)

  laid_row-is : (k : ℕ) → k < length order → laid_row k ≡ wanted_row (get_or order k 0)
  laid_row-is k l = rw (classes-get k l, heads-get k l, part-is k l)

  laid-length : length (tabulate laid_row (length (take (length order) classes))) ≡ length order
  laid-length = tabulate-length laid_row (length (take (length order) classes)) ∙ classes-length

  pub laid-rows :
      rows_of (take (length order) classes) (take (length order) heads) (take (length order + 1) starts)
      (take m children)
      ≡ map wanted_row order
  laid-rows =
      ext_get_or no_row (tabulate laid_row (length (take (length order) classes))) (map wanted_row order)
      (laid-length ∙ sym (length-map order wanted_row))
      (λ k l.
      let t : k < length order = omega (arith, laid-length) in
      tabulate-get laid_row (length (take (length order) classes)) k no_row (omega (arith, classes-length))
      ∙ laid_row-is k t
      ∙ sym (map_get wanted_row order k no_row t))

  pub laid-flat :
      (n : ℕ) →
      n ≤ 512 →
      length order ≤ 1024 →
      Each (λ r. o r < n) order →
      Each (λ r. Each (ChildIn n) (give r)) order →
      FlatOk n
      (take (length order) classes) (take (length order) heads) (take (length order + 1) starts) (take m children)
  laid-flat n few fewer below kids = record {
    few_classes = few;
    few_rows = omega (arith, classes-length);
    heads_length = ap length hs.is ∙ length-map order h ∙ sym classes-length;
    starts_length =
        let r : length order + 1 ≤ length starts = omega (arith, ss.room) in
        length-take-le (length order + 1) starts r ∙ ap (λ (x : ℕ). x + 1) (sym classes-length);
    outputs_in = λ k l.
        let t : k < length order = omega (arith, classes-length) in
        rw (classes-get k t) (below k t);
    starts_rise = λ k l.
        let t : k < length order = omega (arith, classes-length) in
        omega (arith, starts-get k (omega arith), starts-get (k + 1) (omega arith), starts-next k t);
    starts_in = λ k l.
        let t : k < length order = omega (arith, classes-length) in
        omega (arith, starts-get (k + 1) (omega arith), starts-most (k + 1), ap length cs.held);
    children_in = rw cs.held (in_turn-each give (ChildIn n) order kids);
  }
    where
      starts-most : (k : ℕ) → length (in_turn give (take k order)) ≤ length (in_turn give order)
      starts-most k =
          let e : in_turn give order ≡ in_turn give (take k order) ++ in_turn give (drop k order) =
          ap (in_turn give) (sym (take-append-drop k order)) ∙ in_turn-append give (take k order) (drop k order) in
          omega (arith, simp length-append at (ap length e))
