-- Laws of the scan order, for whoever goes by it: what is reached is closed, and each usable row of it comes exactly
-- once. Assumes nothing.
use Prim.Native.Nat.{ℕ, ◌≤◌, ◌<◌}
use mathlib.Core.Path.{◌≡◌, refl, sym, ◌∙◌, subst}
use mathlib.Core.Bool.{Bool, true, ◌&&◌}
use mathlib.Core.List.{List, []}
use native.Mathlib.Omega.{arith}
use borrow.Author.Tests.{eqb-true, eq-eqb}
use lib.Dec.{eqb}
use lib.ListN.{length, get_or}
use Rattle.table_rules.specs.View.{ScanView}
use Rattle.table_rules.specs.Order.{
  has,
  Within,
  Apart,
  none,
  functions_of,
  rows_of,
  join,
  brought,
  sorts_reached,
  functions_in_order,
  rows_in_order,
  Sound,
}
use Rattle.table_rules.proofs.HasLaws.{and-true, has-get, apart-length}
use Rattle.table_rules.proofs.PickedLaws.{
  picked-has,
  picked-finds,
  picked_apart,
  in_turn-has,
  in_turn-finds,
  in_turn-apart,
}
use Rattle.table_rules.proofs.QueueLaws.{join_apart, join-finds, visits-keeps, visits-apart, visits-bring}

-- A function of a sort: it is one of the functions, usable, and that sort is its output sort.
pub record FunctionOf (v : ScanView) (s f : ℕ) : Type 0 where
  pub below : f < v.functions
  pub usable : v.usable f ≡ true
  pub output : v.output f ≡ s

-- A row of a function: it is one of the rows, unsubsumed, and that function is its own.
pub record RowOf (v : ScanView) (f r : ℕ) : Type 0 where
  pub below : r < v.rows
  pub unsubsumed : v.unsubsumed r ≡ true
  pub function : v.function r ≡ f

module _ (v : ScanView) where
  functions-test : ℕ → ℕ → Bool
  functions-test s f = v.usable f && eqb (v.output f) s

  rows-test : ℕ → ℕ → Bool
  rows-test f r = v.unsubsumed r && eqb (v.function r) f

  pub functions_of-has : (s f : ℕ) → has f (functions_of v s) ≡ true → FunctionOf v s f
  unfolding functions_of functions-test
  functions_of-has s f h =
      let w = picked-has (functions-test s) f 0 v.functions h in
      let t = and-true (v.usable f) (eqb (v.output f) s) w.passes in
      record { below = omega (arith, w.high); usable = t.0; output = eqb-true (v.output f) s t.1 }

  pub functions_of-finds : (s f : ℕ) → FunctionOf v s f → has f (functions_of v s) ≡ true
  unfolding functions_of functions-test
  functions_of-finds s f w =
      picked-finds (functions-test s) f 0 v.functions (omega arith) (omega (arith, w.below))
      (rw (w.usable, eq-eqb (v.output f) s w.output))

  pub rows_of-has : (f r : ℕ) → has r (rows_of v f) ≡ true → RowOf v f r
  unfolding rows_of rows-test
  rows_of-has f r h =
      let w = picked-has (rows-test f) r 0 v.rows h in
      let t = and-true (v.unsubsumed r) (eqb (v.function r) f) w.passes in
      record { below = omega (arith, w.high); unsubsumed = t.0; function = eqb-true (v.function r) f t.1 }

  pub rows_of-finds : (f r : ℕ) → RowOf v f r → has r (rows_of v f) ≡ true
  unfolding rows_of rows-test
  rows_of-finds f r w =
      picked-finds (rows-test f) r 0 v.rows (omega arith) (omega (arith, w.below))
      (rw (w.unsubsumed, eq-eqb (v.function r) f w.function))

  module _ (roots : List ℕ) (sound : Sound v roots) where
    brought-within : (s : ℕ) → Within v.sorts (brought v s)
    unfolding brought
    brought-within s a h =
        let w = in_turn-has v.arguments a (functions_of v s) h in
        sound.arguments_below w.0 (functions_of-has s w.0 w.1).below a w.2

    first-apart : Apart v.sorts (join [] roots)
    first-apart = join_apart v.sorts [] roots none sound.roots_below

    pub sorts_reached-apart : Apart v.sorts (sorts_reached v roots)
    unfolding sorts_reached
    sorts_reached-apart = visits-apart (brought v) v.sorts brought-within v.sorts 0 (join [] roots) first-apart

    pub functions_in_order-apart : Apart v.functions (functions_in_order v roots)
    unfolding functions_in_order functions_of functions-test
    functions_in_order-apart =
        in_turn-apart (functions_of v) v.functions v.sorts (sorts_reached v roots) sorts_reached-apart
        (λ s. picked_apart (functions-test s) v.functions 0 v.functions (omega arith))
        (λ f s t h k. sym (functions_of-has s f h).output ∙ (functions_of-has t f k).output)

    -- No row comes twice.
    pub rows_in_order-apart : Apart v.rows (rows_in_order v roots)
    unfolding rows_in_order rows_of rows-test
    rows_in_order-apart =
        in_turn-apart (rows_of v) v.rows v.functions (functions_in_order v roots) functions_in_order-apart
        (λ f. picked_apart (rows-test f) v.rows 0 v.rows (omega arith))
        (λ r f g h k. sym (rows_of-has f r h).function ∙ (rows_of-has g r k).function)

    pub sorts_reached-length : length (sorts_reached v roots) ≤ v.sorts
    sorts_reached-length = apart-length v.sorts (sorts_reached v roots) sorts_reached-apart

    pub functions_in_order-length : length (functions_in_order v roots) ≤ v.functions
    functions_in_order-length = apart-length v.functions (functions_in_order v roots) functions_in_order-apart

    pub rows_in_order-length : length (rows_in_order v roots) ≤ v.rows
    rows_in_order-length = apart-length v.rows (rows_in_order v roots) rows_in_order-apart

    pub root-reached : (root : ℕ) → has root roots ≡ true → has root (sorts_reached v roots) ≡ true
    unfolding sorts_reached
    root-reached root h = visits-keeps (brought v) root v.sorts 0 (join [] roots) (join-finds root [] roots h)

    -- The argument sorts of a usable function of a reached sort are reached.
    pub arguments-reached :
        (f a : ℕ) → f < v.functions → v.usable f ≡ true → has (v.output f) (sorts_reached v roots) ≡ true →
        has a (v.arguments f) ≡ true → has a (sorts_reached v roots) ≡ true
    unfolding sorts_reached brought
    arguments-reached f a l u h k =
        visits-bring (brought v) v.sorts brought-within (v.output f) a (join [] roots) first-apart h
        (in_turn-finds v.arguments a f (functions_of v (v.output f))
        (functions_of-finds (v.output f) f (record { below = l; usable = u; output = refl })) k)

    -- What is known of a row that is scanned.
    pub record Scanned (r : ℕ) : Type 0 where
      pub below : r < v.rows
      pub unsubsumed : v.unsubsumed r ≡ true
      pub function_below : v.function r < v.functions
      pub usable : v.usable (v.function r) ≡ true
      pub output-reached : has (v.output (v.function r)) (sorts_reached v roots) ≡ true
      pub arguments-reached : (a : ℕ) → has a (v.arguments (v.function r)) ≡ true → has a
          (sorts_reached v roots) ≡ true

    pub rows_in_order-has : (r : ℕ) → has r (rows_in_order v roots) ≡ true → Scanned r
    unfolding rows_in_order functions_in_order
    rows_in_order-has r h =
        let w = in_turn-has (rows_of v) r (functions_in_order v roots) h in
        let row = rows_of-has w.0 r w.2 in
        let s = in_turn-has (functions_of v) w.0 (sorts_reached v roots) w.1 in
        let fn = functions_of-has s.0 w.0 s.2 in
        let e = row.function in
        let o : has (v.output (v.function r)) (sorts_reached v roots) ≡ true =
        subst (λ (f : ℕ). has (v.output f) (sorts_reached v roots) ≡ true) (sym e)
        (subst (λ (k : ℕ). has k (sorts_reached v roots) ≡ true) (sym fn.output) s.1) in
        record {
          below = row.below;
          unsubsumed = row.unsubsumed;
          function_below = subst (λ (f : ℕ). f < v.functions) (sym e) fn.below;
          usable = subst (λ (f : ℕ). v.usable f ≡ true) (sym e) fn.usable;
          output-reached = o;
          arguments-reached = λ a k. arguments-reached (v.function r) a
              (subst (λ (f : ℕ). f < v.functions) (sym e) fn.below)
              (subst (λ (f : ℕ). v.usable f ≡ true) (sym e) fn.usable) o k;
        }

    pub rows_in_order-get : (i : ℕ) → i < length (rows_in_order v roots) → Scanned (get_or (rows_in_order v roots) i 0)
    rows_in_order-get i h = rows_in_order-has (get_or (rows_in_order v roots) i 0) (has-get (rows_in_order v roots) i h)

    -- Every usable row whose output sort is reached is scanned.
    pub rows_in_order-finds :
        (r : ℕ) → r < v.rows → v.unsubsumed r ≡ true → v.function r < v.functions →
        v.usable (v.function r) ≡ true → has (v.output (v.function r)) (sorts_reached v roots) ≡ true →
        has r (rows_in_order v roots) ≡ true
    unfolding rows_in_order functions_in_order
    rows_in_order-finds r l s k u h =
        in_turn-finds (rows_of v) r (v.function r) (functions_in_order v roots)
        (in_turn-finds (functions_of v) (v.function r) (v.output (v.function r)) (sorts_reached v roots) h
        (functions_of-finds (v.output (v.function r)) (v.function r)
        (record { below = k; usable = u; output = refl })))
        (rows_of-finds (v.function r) r (record { below = l; unsubsumed = s; function = refl }))
