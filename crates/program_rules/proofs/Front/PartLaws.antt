-- The widest that each part of a table file can be: a file with as many bits from where the part starts is not Short
-- in it, and the part ends within them. Assumes nothing.
use Prim.Native.Nat.{ℕ, ◌+◌, ◌*◌, ◌≤◌, ◌<◌}
use mathlib.Core.List.{List, [], ◌∷◌}
use mathlib.Core.Path.{sym, subst}
use native.Mathlib.Omega.{arith}
use lib.ListN.{length, length-append}
use borrow.Author.Tests.{leb-true, ltb-true}
use Rattle.file_rules.specs.Table.{Sort, Function}
use Rattle.file_rules.specs.Every.{Every}
use Rattle.file_rules.specs.Sorts.{classes_of, sort_at, sorts_at}
use Rattle.file_rules.specs.Literals.{literal_at, literals_at}
use Rattle.file_rules.specs.Functions.{
  name_at,
  new_name_at,
  cost_at,
  flags_at,
  output_at,
  argument_at,
  arguments_at,
  function_at,
  functions_at,
}
use Rattle.file_rules.specs.Rows.{function_no, columns, cell_at, cells_at, row_at, rows_at}
use Rattle.file_rules.specs.File.{version_at, sorts_part, literals_part, functions_part, rows_part, pad_bits, end_at}
use Rattle.file_rules.proofs.BlockLaws.{every_get}
use Rattle.file_rules.proofs.CellLaws.{cells-many}
use Rattle.program_rules.proofs.Front.WithinLaws.{
  Within,
  within-got,
  within-mono,
  within-then,
  within-must,
  within-pick,
  within-holds,
  within-field,
  within-many,
}

module _ (s : List ℕ) where
  pub version-within : (at : ℕ) → at + 4 ≤ 8 * length s → Within (at + 4) (version_at s at)
  unfolding version_at
  version-within at h = within-field s at 4 _ h (λ v _. within-must _ _ (omega arith) (λ _. within-got (omega arith)))

  sort-within : (at t : ℕ) → at + 11 ≤ 8 * length s → Within (at + 11) (sort_at s at t)
  unfolding sort_at
  sort-within at t h =
      within-field s at 1 _ (omega arith) (λ kind _.
      within-pick _ (within-got (omega arith))
      (within-field s (at + 1) 10 _ (omega arith) (λ n _.
      within-must _ _ (omega arith) (λ _. within-must _ _ (omega arith) (λ _. within-got (omega arith))))))

  -- 31 sorts.
  pub sorts-within : (at : ℕ) → at + 346 ≤ 8 * length s → Within (at + 346) (sorts_part s at)
  unfolding sorts_part sorts_at
  sorts-within at h =
      within-field s at 5 _ (omega arith) (λ n l.
      let few : n < 32 = l in
      within-mono (omega arith)
      (within-many 11 (8 * length s) (λ xs p b. sort-within p (classes_of xs) b) n (at + 5) [] (omega arith)))

  literal-within : (at : ℕ) → at + 64 ≤ 8 * length s → Within (at + 64) (literal_at s at)
  unfolding literal_at
  literal-within at h = within-field s at 64 _ h (λ v _. within-got (omega arith))

  -- 511 literals.
  pub literals-within : (at : ℕ) → at + 32713 ≤ 8 * length s → Within (at + 32713) (literals_part s at)
  unfolding literals_part literals_at
  literals-within at h =
      within-field s at 9 _ (omega arith) (λ n l.
      let few : n < 512 = l in
      within-mono (omega arith)
      (within-many 64 (8 * length s) (λ xs p b. literal-within p b) n (at + 9) [] (omega arith)))

  -- A name of 31 bytes.
  name-within : (at : ℕ) → at + 253 ≤ 8 * length s → Within (at + 253) (name_at s at)
  unfolding name_at
  name-within at h =
      within-field s at 5 _ (omega arith) (λ n l.
      let few : n < 32 = l in
      within-must _ _ (omega arith) (λ _.
      within-holds s (at + 5) (8 * n) _ (omega arith)
      (within-must _ _ (omega arith) (λ _. within-got (omega arith)))))

  new-name-within : (before : List Function) (at : ℕ) → at + 253 ≤ 8 * length s
      → Within (at + 253) (new_name_at s before at)
  unfolding new_name_at
  new-name-within before at h =
      within-then (name-within at h) (λ name p _ l. within-must _ _ (omega arith) (λ _. within-got l))

  cost-within : (at : ℕ) → at + 65 ≤ 8 * length s → Within (at + 65) (cost_at s at)
  unfolding cost_at
  cost-within at h =
      within-field s at 1 _ (omega arith) (λ has _.
      within-pick _ (within-got (omega arith))
      (within-field s (at + 1) 64 _ (omega arith) (λ cost _. within-got (omega arith))))

  flags-within : (at : ℕ) → at + 2 ≤ 8 * length s → Within (at + 2) (flags_at s at)
  unfolding flags_at
  flags-within at h =
      within-field s at 1 _ (omega arith) (λ u _.
      within-field s (at + 1) 1 _ (omega arith) (λ v _. within-got (omega arith)))

  output-within : (kinds : List ℕ) (at : ℕ) → at + 5 ≤ 8 * length s → Within (at + 5) (output_at s kinds at)
  unfolding output_at
  output-within kinds at h =
      within-field s at 5 _ h (λ k _.
      within-must _ _ (omega arith) (λ _. within-must _ _ (omega arith) (λ _. within-got (omega arith))))

  argument-within : (n at : ℕ) → at + 5 ≤ 8 * length s → Within (at + 5) (argument_at s n at)
  unfolding argument_at
  argument-within n at h =
      within-field s at 5 _ h (λ k _. within-must _ _ (omega arith) (λ _. within-got (omega arith)))

  -- 8 arguments.
  arguments-within : (m at : ℕ) → at + 44 ≤ 8 * length s → Within (at + 44) (arguments_at s m at)
  unfolding arguments_at
  arguments-within m at h =
      within-field s at 4 _ (omega arith) (λ n _.
      within-must _ _ (omega arith) (λ t.
      let few : n ≤ 8 = leb-true _ _ t in
      within-mono (omega arith)
      (within-many 5 (8 * length s) (λ xs p b. argument-within m p b) n (at + 4) [] (omega arith))))

  function-within : (kinds : List ℕ) (before : List Function) (at : ℕ) → at + 369 ≤ 8 * length s
      → Within (at + 369) (function_at s kinds before at)
  unfolding function_at
  function-within kinds before at h =
      within-then (new-name-within before at (omega arith)) (λ name p _ a.
      within-then (cost-within p (omega arith)) (λ cost q _ b.
      within-then (flags-within q (omega arith)) (λ flags t _ c.
      within-then (output-within kinds t (omega arith)) (λ output u _ d.
      within-then (arguments-within (length kinds) u (omega arith)) (λ arguments v _ e. within-got (omega arith))))))

  -- 127 functions.
  pub functions-within : (kinds : List ℕ) (at : ℕ) → at + 46870 ≤ 8 * length s
      → Within (at + 46870) (functions_part s kinds at)
  unfolding functions_part functions_at
  functions-within kinds at h =
      within-field s at 7 _ (omega arith) (λ n l.
      let few : n < 128 = l in
      within-mono (omega arith)
      (within-many 369 (8 * length s) (λ fs p b. function-within kinds fs p b) n (at + 7) [] (omega arith)))

  cell-within : (bound at : ℕ) → at + 9 ≤ 8 * length s → Within (at + 9) (cell_at s bound at)
  unfolding cell_at
  cell-within bound at h =
      within-field s at 9 _ h (λ v _. within-must _ _ (omega arith) (λ _. within-got (omega arith)))

  -- 9 cells.
  cells-within : (sorts : List Sort) (l : ℕ) (ks : List ℕ) (at : ℕ) → length ks ≤ 9 → at + 81 ≤ 8 * length s
      → Within (at + 81) (cells_at s sorts l ks at)
  cells-within sorts l ks at few h =
      subst (Within (at + 81)) (sym (cells-many s sorts l ks at))
      (within-mono (omega arith)
      (within-many 9 (8 * length s) (λ xs p b. cell-within _ p b) (length ks) at [] (omega arith)))

  module _ (sorts : List Sort) (l : ℕ) (fs : List Function)
      (tight : Every (λ (f : Function). length f.arguments ≤ 8) fs) where
    row_within : (at : ℕ) → at + 89 ≤ 8 * length s → Within (at + 89) (row_at s sorts l fs at)
    unfolding row_at
    row_within at h =
        within-field s at 7 _ (omega arith) (λ f _.
        within-must _ _ (omega arith) (λ t.
        let few : length (function_no fs f).arguments ≤ 8 =
        every_get tight f (function_no [] 0) (ltb-true _ _ t) in
        let n : length (columns (function_no fs f)) ≤ 9 =
        omega (arith, length-append (function_no fs f).arguments ((function_no fs f).output ∷ [])) in
        within-field s (at + 7) 1 _ (omega arith) (λ bit _.
        within-then (cells-within sorts l (columns (function_no fs f)) (at + 7 + 1) n (omega arith)) (λ cells p _ b.
        within-got (omega arith)))))

    -- 1,024 rows.
    pub rows-within : (at : ℕ) → at + 91147 ≤ 8 * length s → Within (at + 91147) (rows_part s sorts l fs at)
    unfolding rows_part rows_at
    rows-within at h =
        within-field s at 11 _ (omega arith) (λ n _.
        within-must _ _ (omega arith) (λ t.
        let few : n ≤ 1024 = leb-true _ _ t in
        within-mono (omega arith)
        (within-many 89 (8 * length s) (λ rows p b. row_within p b) n (at + 11) [] (omega arith))))

  -- The pad bits end with a byte, so within every m bytes that the position is within.
  pub end-within : (m at : ℕ) → at ≤ 8 * m → m ≤ length s → Within (8 * m) (end_at s at)
  unfolding end_at
  end-within m at a h =
      within-field s at (pad_bits at) _ (omega arith) (λ v _.
      within-must _ _ (omega arith) (λ _. within-must _ _ (omega arith) (λ _. within-got (omega arith))))
