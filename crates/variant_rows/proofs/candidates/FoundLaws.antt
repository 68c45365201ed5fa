-- Laws on the loops that price rows and pick them. Assumes nothing.
use mathlib.Core.Path.{◌≡◌}
use mathlib.Core.Bool.{Bool, false}
use mathlib.Core.List.{List, map}
use Prim.Native.Nat.{ℕ, ◌≤◌}
use native.Mathlib.Nat.{sub-zero}
use native.Mathlib.Omega.{arith}
use borrow.Author.Tests.{eq-eqb, ne_eqb}
use lib.ListN.{length, get_or}
use Rattle.choice_rules.specs.Rows.{all_of}
use Rattle.choice_rules.specs.Run.{priced}
use Rattle.price_passes.specs.Flat.{child_of, part_of}
use Rattle.table_rules.specs.Order.{picked}
use Rattle.table_rules.proofs.HasLaws.{apart-length}
use Rattle.table_rules.proofs.PickedLaws.{Appends, picked_apart}
use Rattle.variant_rows.specs.Candidates.{is_candidate}

-- no more are picked than there are
pub picked_fits : (p : ℕ → Bool) (n : ℕ) → length (picked p 0 n) ≤ n
picked_fits p n = apart-length n (picked p 0 n) (picked_apart p n 0 n (omega arith))

pub picking-start : (p : ℕ → Bool) (n : ℕ) (list : List ℕ) → Appends p n (picked p 0 n) list 0 0
picking-start p n list = record { at = omega arith; room = omega arith; is = rw sub-zero }

-- a row of another class is none; one of the class is by its children
module _ (ranks outputs starts children : List ℕ) (c i : ℕ) where
  pub candidate-no : (get_or outputs i 0 ≡ c → ⊥) → false ≡ is_candidate ranks outputs starts children c i
  candidate-no n = rw (ne_eqb (get_or outputs i 0) c n)

  pub candidate-yes :
      (b : Bool) →
      get_or outputs i 0 ≡ c →
      b ≡ all_of (priced ranks) (map child_of (part_of starts children i)) →
      b ≡ is_candidate ranks outputs starts children c i
  candidate-yes b e h = rw (eq-eqb (get_or outputs i 0) c e) h
