-- Two records by all but their children, and where their children first differ. Assumes nothing: these are definitions.
use Rattle.std.specs.Prelude.{ℕ, ◌≤◌, ◌<◌, ◌≡◌, List, length, get_or}
use Rattle.std.specs.declared.cmp.Ordering.{Ordering}
use Rattle.std.specs.declared.cmp.Ordering.TheVariants.{Less, Greater}
use Rattle.order.specs.Compare.{then_by, numbers, lists}
use Rattle.term_rules.specs.Nodes.{Node, literal, variable, application}
use Rattle.term_order.specs.TreeOrder.{ints}

-- nodes by kind, then literal, or name, or name and child count
unfoldable pub heads : Node → Node → Ordering
heads (literal y) (literal z) = ints y z
heads (literal y) (variable n) = Less
heads (literal y) (application n ks) = Less
heads (variable m) (literal z) = Greater
heads (variable m) (variable n) = lists m n
heads (variable m) (application n ks) = Less
heads (application m js) (literal z) = Greater
heads (application m js) (variable n) = Greater
heads (application m js) (application n ks) = then_by (lists m n) (numbers (length js) (length ks))

-- place j is the first at which two lists of eight differ, or there is none and j is 8
pub record FirstApart (js ks : List ℕ) (j : ℕ) : Type 0 where
  pub within : j ≤ 8
  pub before : (i : ℕ) → i < j → get_or js i 0 ≡ get_or ks i 0
  pub apart : j < 8 → get_or js j 0 ≡ get_or ks j 0 → ⊥
