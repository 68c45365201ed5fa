-- Rows out of flat lists: their number, each of them, their outputs. Assumes nothing.
use mathlib.Core.Path.{◌≡◌, ap}
use mathlib.Core.List.{List}
use Prim.Native.Nat.{ℕ, ◌+◌, ◌-◌, ◌<◌, min}
use native.Mathlib.Omega.{arith}
use lib.ListN.{length, get_or, take, drop, length-take, length-drop}
use lib.Seq.{get_or-take, get_or-drop}
use Rattle.choice_rules.specs.Rows.{Row, row_at, no_row, Within}
use Rattle.choice_rules.proofs.ListLaws.{tabulate-length, tabulate-get}
use Rattle.price_passes.specs.Flat.{row_of, part_of, rows_of, ChildrenIn, FlatOk}

module _ (outputs heads starts children : List ℕ) where
  pub rows-length : length (rows_of outputs heads starts children) ≡ length outputs
  rows-length = tabulate-length (λ i. row_of (get_or outputs i 0) (get_or heads i 0) (part_of starts children i))
      (length outputs)

  pub rows_get : (i : ℕ) → i < length outputs
      → row_at (rows_of outputs heads starts children) i ≡ row_of (get_or outputs i 0) (get_or heads i 0)
      (part_of starts children i)
  rows_get i h = tabulate-get (λ i. row_of (get_or outputs i 0) (get_or heads i 0) (part_of starts children i))
      (length outputs) i no_row h

  pub rows-within : (n : ℕ) → FlatOk n outputs heads starts children → Within n (rows_of outputs heads starts children)
  rows-within n ok i h =
      let l : i < length outputs = omega (arith, rows-length) in
      omega (arith, ok.outputs_in i l, ap (λ (r : Row). r.output) (rows_get i l))

-- a part of children over n classes is over n classes
pub part_in : (n m a : ℕ) (xs : List ℕ) → ChildrenIn n xs → ChildrenIn n (take m (drop a xs))
part_in n m a xs h i l =
    let l' : i < min m (length xs - a) = simp (length-take, length-drop) at l in
    let l'' : i < m = omega arith in
    rw (get_or-take m (drop a xs) i 0 l'', get_or-drop) (h (a + i) (omega arith))
