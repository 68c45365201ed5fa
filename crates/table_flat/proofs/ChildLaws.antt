-- Laws of child numbers, and of the loop that lays a row's. Assumes nothing.
use Prim.Native.Nat.{ℕ, zero, suc, ◌+◌, ◌-◌, ◌*◌, ◌≤◌, ◌<◌}
use mathlib.Core.Path.{◌≡◌, refl, ap, sym, ◌∙◌}
use mathlib.Core.List.{List, [], ◌∷◌, ◌++◌, append_assoc, append-nil}
use native.Mathlib.Omega.{arith}
use lib.ListN.{length, get_or, take, drop, set, length-set, length-append, length-take, length-drop}
use lib.Seq.{drop-length, get_or-take, get_or-drop}
use Rattle.table_rules.proofs.HasLaws.{drop-step, take-set-last}
use Rattle.table_rules.proofs.ArrayLaws.{arguments-part}
use Rattle.table_rules.specs.Arrays.{arguments_in}
use Rattle.table_flat.specs.Rows.{child_number, child_numbers, cells_in, children_in}
use Rattle.table_flat.specs.Arrays.{CellsFit, ChildrenFit}

pub child_numbers-length :
    (kinds bases ss vs : List ℕ) → length vs ≡ length ss → length (child_numbers kinds bases ss vs) ≡ length ss
unfolding child_numbers
child_numbers-length kinds bases [] vs e = refl
child_numbers-length kinds bases (s ∷ ss) [] e = absurd (omega arith)
child_numbers-length kinds bases (s ∷ ss) (v ∷ vs) e = ap suc (child_numbers-length kinds bases ss vs (omega arith))

pub child_numbers-get :
    (kinds bases ss vs : List ℕ) (j : ℕ) → length vs ≡ length ss → j < length ss →
    get_or (child_numbers kinds bases ss vs) j 0 ≡ child_number kinds bases (get_or ss j 0) (get_or vs j 0)
unfolding child_numbers
child_numbers-get kinds bases [] vs j e h = absurd (omega arith)
child_numbers-get kinds bases (s ∷ ss) [] j e h = absurd (omega arith)
child_numbers-get kinds bases (s ∷ ss) (v ∷ vs) zero e h = refl
child_numbers-get kinds bases (s ∷ ss) (v ∷ vs) (suc j) e h =
    child_numbers-get kinds bases ss vs j (omega arith) (omega arith)

-- The loop that lays the numbers of cells.
pub record Laying (kinds bases sorts cells wanted list : List ℕ) (m j : ℕ) : Type 0 where
  pub at : j ≤ length sorts
  pub room : m ≤ length list
  pub is : take m list ++ child_numbers kinds bases (drop j sorts) (drop j cells) ≡ wanted

module _ (kinds bases sorts cells : List ℕ) (same : length cells ≡ length sorts) where
  pub laying-start :
      (list : List ℕ) (at : ℕ) → at + length sorts ≤ length list →
      Laying kinds bases sorts cells (take at list ++ child_numbers kinds bases sorts cells) list at 0
  laying-start list at r = record { at = omega arith; room = omega arith; is = refl }

  pub laying-fits :
      (list : List ℕ) (at : ℕ) → at + length sorts ≤ length list →
      length (take at list ++ child_numbers kinds bases sorts cells) ≤ length list
  laying-fits list at r =
      simp (length-append, length-take) (omega (arith, child_numbers-length kinds bases sorts cells same))

  module _ (wanted list : List ℕ) (m j : ℕ) (v : Laying kinds bases sorts cells wanted list m j) where
    pub laying-end : length sorts ≤ j → take m list ≡ wanted
    unfolding child_numbers
    laying-end h =
        let e : j ≡ length sorts = omega (arith, v.at) in
        let z : drop j sorts ≡ [] = rw (e, drop-length) in
        sym (append-nil (take m list)) ∙ rw z at v.is

    module _ (l : j < length sorts) where
      laying-next :
          take m list ++ (child_number kinds bases (get_or sorts j 0) (get_or cells j 0)
          ∷ child_numbers kinds bases (drop (j + 1) sorts) (drop (j + 1) cells)) ≡ wanted
      unfolding child_numbers
      laying-next =
          let k : j < length cells = omega arith in
          rw (drop-step sorts j l, drop-step cells j k) at v.is

      pub laying-room : length wanted ≤ length list → m < length list
      laying-room h = omega (arith, simp (length-append, length-take) at (ap length laying-next), v.room)

      pub laying-step :
          m < length list →
          (x : ℕ) →
          x ≡ child_number kinds bases (get_or sorts j 0) (get_or cells j 0) →
          Laying kinds bases sorts cells wanted (set list m x) (m + 1) (j + 1)
      laying-step r x e = record {
        at = omega arith;
        room = rw length-set (omega arith);
        is = rw (take-set-last list m x r, append_assoc, e) laying-next;
      }

-- The parts of the arrays that a row's function and number point to.
module _ (arities arguments cells : List ℕ) (f r : ℕ) where
  pub arguments-length :
      f * 8 + get_or arities f 0 ≤ length arguments → length (arguments_in arities arguments f) ≡ get_or arities f 0
  unfolding arguments_in
  arguments-length h = simp (length-take, length-drop) (omega arith)

  pub cells-length : r * 9 + get_or arities f 0 ≤ length cells → length (cells_in arities cells f r) ≡ get_or arities f 0
  unfolding cells_in
  cells-length h = simp (length-take, length-drop) (omega arith)

  pub arguments-get :
      (j : ℕ) → j < get_or arities f 0 → get_or (arguments_in arities arguments f) j 0 ≡ get_or arguments (f * 8 + j) 0
  unfolding arguments_in
  arguments-get j h = get_or-take (get_or arities f 0) (drop (f * 8) arguments) j 0 h ∙ get_or-drop (f * 8) arguments j 0

  pub cells-get : (j : ℕ) → j < get_or arities f 0 → get_or (cells_in arities cells f r) j 0 ≡ get_or cells (r * 9 + j) 0
  unfolding cells_in
  cells-get j h = get_or-take (get_or arities f 0) (drop (r * 9) cells) j 0 h ∙ get_or-drop (r * 9) cells j 0

  pub cells-part : take (r * 9 + get_or arities f 0 - r * 9) (drop (r * 9) cells) ≡ cells_in arities cells f r
  unfolding cells_in
  cells-part = let e : r * 9 + get_or arities f 0 - r * 9 ≡ get_or arities f 0 = omega arith in rw e

pub children_in-length :
    (kinds bases arities arguments row_functions cells : List ℕ) (r : ℕ) →
    ChildrenFit kinds bases arities arguments row_functions cells r →
    length (children_in kinds bases arities arguments row_functions cells r) ≡ get_or arities (get_or row_functions r 0) 0
unfolding children_in
children_in-length kinds bases arities arguments row_functions cells r v =
    let f = get_or row_functions r 0 in
    let a = arguments-length arities arguments cells f r v.arguments_long in
    let b = cells-length arities arguments cells f r v.cells_long in
    child_numbers-length kinds bases (arguments_in arities arguments f) (cells_in arities cells f r) (b ∙ sym a) ∙ a

-- What lay_row hands on, and what it gets back, in the form of the slices.
module _ (kinds bases arities arguments row_functions cells : List ℕ) (r : ℕ)
    (v : ChildrenFit kinds bases arities arguments row_functions cells r) where
  abbrev argument_part : List ℕ
  argument_part =
      take (get_or row_functions r 0 * 8 + get_or arities (get_or row_functions r 0) 0 - get_or row_functions r 0 * 8)
      (drop (get_or row_functions r 0 * 8) arguments)

  abbrev cell_part : List ℕ
  cell_part = take (r * 9 + get_or arities (get_or row_functions r 0) 0 - r * 9) (drop (r * 9) cells)

  pub row-ready :
      (at n : ℕ) →
      at + length (children_in kinds bases arities arguments row_functions cells r) ≤ n →
      (length cell_part ≡ length argument_part)
      × ((at + length argument_part ≤ n) × CellsFit kinds bases argument_part cell_part)
  row-ready at n h =
      let f = get_or row_functions r 0 in
      let a = arguments-length arities arguments cells f r v.arguments_long in
      let b = cells-length arities arguments cells f r v.cells_long in
      rw (arguments-part arities arguments f, cells-part arities arguments cells f r) (
        b ∙ sym a,
        (
          omega
              (arith, a, children_in-length kinds bases arities arguments row_functions cells r v),
          v.fit,
        ),
      )

  pub row-children :
      child_numbers kinds bases argument_part cell_part ≡ children_in kinds bases arities arguments row_functions cells r
  unfolding children_in
  row-children =
      rw (
        arguments-part arities arguments (get_or row_functions r 0),
        cells-part arities arguments cells (get_or row_functions r 0) r,
      )
