-- The relaxation of one row, by the ways of the code. Assumes nothing.
use mathlib.Core.Path.{◌≡◌, refl}
use mathlib.Core.Bool.{Bool, true, false}
use mathlib.Core.List.{List, map}
use Prim.Native.Nat.{ℕ, ◌+◌, min}
use native.Mathlib.Numerals.{add-one}
use borrow.Author.Tests.{eq-eqb, ne_eqb, eqb-true}
use lib.ListN.{get_or, set}
use lib.Dec.{ltb, eqb}
use Rattle.choice_rules.specs.Rows.{all_of, sum_of}
use Rattle.choice_rules.specs.Run.{State, priced, child_cost, row_cost, improves, relax}
use Rattle.price_passes.specs.Flat.{top, child_of, row_of, state_of}

module _ (costs ranks kids : List ℕ) (last output head : ℕ) where
  abbrev after : State
  after = relax top (state_of costs ranks last) (row_of output head kids)

  pub relax-when-unpriced : all_of (priced ranks) (map child_of kids) ≡ false → state_of costs ranks last ≡ after
  unfolding relax improves
  relax-when-unpriced e = rw e

  module _ (w : ℕ) (k : all_of (priced ranks) (map child_of kids) ≡ true)
      (we : w ≡ min top (head + sum_of (child_cost costs) (map child_of kids))) where
    pub relax-when-first : get_or ranks output 0 ≡ 0
        → state_of (set costs output w) (set ranks output (last + 1)) (last + 1) ≡ after
    unfolding relax improves row_cost
    relax-when-first z = rw (k, eq-eqb (get_or ranks output 0) 0 z, we, add-one)

    pub relax-when-lower : ltb w (get_or costs output 0) ≡ true
        → state_of (set costs output w) (set ranks output (last + 1)) (last + 1) ≡ after
    unfolding relax improves row_cost
    relax-when-lower z = go (eqb (get_or ranks output 0) 0) refl
      where
        go : (b : Bool) → eqb (get_or ranks output 0) 0 ≡ b
            → state_of (set costs output w) (set ranks output (last + 1)) (last + 1) ≡ after
        go true e = relax-when-first (eqb-true (get_or ranks output 0) 0 e)
        go false e = rw (k, e, ← we, z, add-one)

    pub relax-when-kept : (get_or ranks output 0 ≡ 0 → ⊥) → ltb w (get_or costs output 0) ≡ false
        → state_of costs ranks last ≡ after
    unfolding relax improves row_cost
    relax-when-kept n z = rw (k, ne_eqb (get_or ranks output 0) 0 n, ← we, z)
