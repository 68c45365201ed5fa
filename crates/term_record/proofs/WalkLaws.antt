-- std's tests of a whole list are those of the definitions. Assumes nothing.
use Prim.Native.Nat.{ℕ}
use mathlib.Core.Path.{◌≡◌, refl}
use mathlib.Core.List.{List, [], ◌∷◌}
use Rattle.std.specs.Prelude.{nat_eq, nat_lt}
use Rattle.std.specs.List.{list_all}
use Rattle.term_rules.specs.WellFormed.{all_zero, all_below}

pub all_zero-all : (s : List ℕ) → list_all (λ x. nat_eq x 0) s ≡ all_zero s
unfolding all_zero
all_zero-all [] = refl
all_zero-all (x ∷ s) = rw (all_zero-all s)

pub all_below-all : (n : ℕ) (s : List ℕ) → list_all (λ x. nat_lt x n) s ≡ all_below n s
unfolding all_below
all_below-all n [] = refl
all_below-all n (x ∷ s) = rw (all_below-all n s)
