-- Fixed cases of the scan order, by computing. Assumes nothing.
use mathlib.Core.Path.{◌≡◌, refl}
use mathlib.Core.List.{[], ◌∷◌}
use Rattle.table_rules.specs.View.{ScanView}
use Rattle.table_rules.specs.Order.{
  has,
  picked,
  in_turn,
  functions_of,
  rows_of,
  join,
  brought,
  visits,
  sorts_reached,
  functions_in_order,
  rows_in_order,
}
use Rattle.table_rules.specs.Arrays.{arguments_in, view_in}

-- Five sorts; A(2 1) -> 0, hidden B(4) -> 0, C(0) -> 2 without rows, D() -> 1, E() -> 4; rows of D, A, A (subsumed),
-- B, A, E.
abbrev five : ScanView
five =
    view_in 5 5 6 (0 ∷ 0 ∷ 2 ∷ 1 ∷ 4 ∷ []) (2 ∷ 1 ∷ 1 ∷ 0 ∷ 0 ∷ [])
    (2 ∷ 1 ∷ 0 ∷ 0 ∷ 0 ∷ 0 ∷ 0 ∷ 0 ∷ 4 ∷ 0 ∷ 0 ∷ 0 ∷ 0 ∷ 0 ∷ 0 ∷ 0 ∷ 0 ∷ [])
    (0 ∷ 0 ∷ 0 ∷ 0 ∷ 0 ∷ []) (0 ∷ 1 ∷ 0 ∷ 0 ∷ 0 ∷ [])
    (3 ∷ 0 ∷ 0 ∷ 1 ∷ 0 ∷ 4 ∷ []) (0 ∷ 0 ∷ 1 ∷ 0 ∷ 0 ∷ 0 ∷ [])

-- Sort 4 is an argument of the hidden function alone, so it is not reached.
pub five-sorts : sorts_reached five (0 ∷ []) ≡ 0 ∷ 2 ∷ 1 ∷ []
unfolding has picked in_turn functions_of join brought visits sorts_reached arguments_in view_in
five-sorts = refl

-- Two root sorts, the first of them given again: each is in the queue once, in the order given.
pub five-sorts-of-two : sorts_reached five (4 ∷ 0 ∷ 4 ∷ []) ≡ 4 ∷ 0 ∷ 2 ∷ 1 ∷ []
unfolding has picked in_turn functions_of join brought visits sorts_reached arguments_in view_in
five-sorts-of-two = refl

pub five-functions : functions_in_order five (0 ∷ []) ≡ 0 ∷ 2 ∷ 3 ∷ []
unfolding has picked in_turn functions_of join brought visits sorts_reached functions_in_order arguments_in view_in
five-functions = refl

pub five-rows : rows_in_order five (0 ∷ []) ≡ 1 ∷ 4 ∷ 0 ∷ []
unfolding has picked in_turn functions_of rows_of join brought visits sorts_reached functions_in_order
    rows_in_order arguments_in view_in
five-rows = refl
