-- Laws of the table's arrays: what a visit brings, and how its loop begins. Assumes nothing.
use Prim.Native.Nat.{ℕ, ◌+◌, ◌-◌, ◌*◌, ◌≤◌, ◌<◌}
use mathlib.Core.Path.{◌≡◌}
use mathlib.Core.Bool.{true}
use mathlib.Core.List.{List}
use native.Mathlib.Omega.{arith}
use native.Mathlib.Nat.{sub-zero}
use lib.ListN.{length, get_or, take, drop}
use Rattle.table_rules.specs.Order.{has, Within, Apart, join}
use Rattle.table_rules.specs.Arrays.{belongs_to, held_by, arguments_in, brought_in, Columns}
use Rattle.table_rules.proofs.PickedLaws.{picked-has, in_turn-has}
use Rattle.table_rules.proofs.QueueLaws.{Visiting}

-- The part of the arguments that function f has.
pub arguments-part :
    (arities arguments : List ℕ) (f : ℕ) →
    take (f * 8 + get_or arities f 0 - f * 8) (drop (f * 8) arguments) ≡ arguments_in arities arguments f
unfolding arguments_in
arguments-part arities arguments f = let e : f * 8 + get_or arities f 0 - f * 8 ≡ get_or arities f 0 = omega arith in rw e

pub held_below : (keys barred : List ℕ) (n key x : ℕ) → has x (held_by keys barred n key) ≡ true → x < n
unfolding held_by
held_below keys barred n key x h = omega (arith, (picked-has (belongs_to keys barred key) x 0 n h).high)

module _ (sorts n : ℕ) (outputs barred arities arguments : List ℕ) (ok : Columns sorts n arities arguments) where
  pub brought-within : (sort : ℕ) → Within sorts (brought_in n outputs barred arities arguments sort)
  unfolding brought_in
  brought-within sort a h =
      let w = in_turn-has (arguments_in arities arguments) a (held_by outputs barred n sort) h in
      ok.below w.0 (held_below outputs barred n sort w.0 w.1) a w.2

  pub visiting-start :
      (sort : ℕ) (q : List ℕ) (m : ℕ) →
      m ≤ length q →
      sorts ≤ length q →
      Apart sorts (take m q) →
      Visiting sorts n (belongs_to outputs barred sort) (arguments_in arities arguments)
      (join (take m q) (brought_in n outputs barred arities arguments sort)) q m 0
  unfolding brought_in held_by
  visiting-start sort q m r l d = record { at = omega arith; room = r; all = l; apart = d; is = rw sub-zero }
