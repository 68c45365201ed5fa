-- What holds of the rows that were read, and how many bits they take at most. Assumes nothing.
use Prim.{Dec, yes, no}
use Prim.Native.Nat.{ℕ, ◌+◌, ◌*◌, ◌≤◌, ◌<◌}
use mathlib.Core.List.{List, [], ◌∷◌, ◌++◌}
use mathlib.Core.Path.{◌≡◌, sym, subst}
use native.Mathlib.Decide.{dec_lt}
use native.Mathlib.Omega.{arith}
use lib.ListN.{length, get_or, length-append, get_or-append}
use lib.Seq.{get_or-append_seam}
use borrow.Author.Tests.{ltb-true}
use Rattle.bits.specs.Got.{got}
use Rattle.bits.specs.Field.{field}
use Rattle.bits.proofs.FieldLaws.{field-read}
use Rattle.bits.proofs.GotLaws.{All, all-got, all-at, all_of, all_map, all_then, all-must, many-all, many-length}
use Rattle.file_rules.specs.Table.{Sort, Function, Row}
use Rattle.file_rules.specs.Every.{Every, every-nil}
use Rattle.file_rules.specs.Rows.{function_no, columns, range, cell_at, cells_at, row_at, rows_at}
use Rattle.file_rules.specs.Accepted.{CellsOk, RowOk}
use Rattle.file_rules.proofs.BlockLaws.{every-snoc, every_get}
use Rattle.file_rules.proofs.CellLaws.{cells-many}

pub cell-kept : (s : List ℕ) (bound at : ℕ) → All (λ v q. (v < bound) × (q ≡ at + 9)) (cell_at s bound at)
unfolding cell_at
cell-kept s bound at =
    all_then (field s at 9) _ (λ v p e. all-must _ _ _ (λ b. all-got (ltb-true _ _ b, (field-read s at 9 e).end)))

-- The cells read so far are below their bounds.
record Cells (bounds : ℕ → ℕ) (at : ℕ) (xs : List ℕ) (q : ℕ) : Type 0 where
  within : (j : ℕ) → j < length xs → get_or xs j 0 < bounds j
  near : q ≤ at + 9 * length xs

within_by : (bounds : ℕ → ℕ) (xs : List ℕ) (v j : ℕ) → ((j : ℕ) → j < length xs → get_or xs j 0 < bounds j)
    → v < bounds (length xs)
    → j < length xs + 1 → Dec (j < length xs) → get_or (xs ++ (v ∷ [])) j 0 < bounds j
within_by bounds xs v j h b l (yes m) = rw (get_or-append xs (v ∷ []) 0 j m) (h j m)
within_by bounds xs v j h b l (no n) =
    let e : j ≡ length xs = omega arith in
    rw (e, get_or-append_seam xs v [] 0) b

cells-more : (bounds : ℕ → ℕ) (at : ℕ) (xs : List ℕ) (p v q : ℕ) → Cells bounds at xs p → v < bounds (length xs)
    → q ≡ p + 9
    → Cells bounds at (xs ++ (v ∷ [])) q
cells-more bounds at xs p v q h b e =
    record {
      within = λ j l.
          let m : j < length xs + 1 = rw length-append at l in
          within_by bounds xs v j h.within b m (dec_lt j (length xs));
      near = simp length-append (omega (arith, h.near));
    }

module _ (s : List ℕ) (sorts : List Sort) (l : ℕ) where
  pub record CellsKept (ks : List ℕ) (at : ℕ) (xs : List ℕ) (q : ℕ) : Type 0 where
    pub ok : CellsOk sorts l ks xs
    pub near : q ≤ at + 9 * length ks

  pub cells-kept : (ks : List ℕ) (at : ℕ) → All (CellsKept ks at) (cells_at s sorts l ks at)
  cells-kept ks at =
      let bounds : ℕ → ℕ = λ j. range sorts l (get_or ks j 0) in
      subst (All (CellsKept ks at)) (sym (cells-many s sorts l ks at))
      (all_of _ (λ xs q e.
      let n : length xs ≡ length ks = many-length _ (length ks) at e in
      let c = all-at (rw e at (many-all _ (Cells bounds at)
      (λ xs p h. all_map (λ v q k. cells-more bounds at xs p v q h k.0 k.1) (cell-kept s (bounds (length xs)) p))
      (length ks) at [] (record { within = λ j z. absurd (none j z); near = omega arith }))) in
      record {
        ok = record { count = n; within = λ j m. c.within j (omega arith) };
        near = omega (arith, c.near);
      }))
    where
      none : (j : ℕ) → j < 0 → ⊥
      none j z = omega arith

  pub record RowKept (fs : List Function) (at : ℕ) (r : Row) (q : ℕ) : Type 0 where
    pub ok : RowOk sorts l fs r
    pub near : q ≤ at + 89

  module _ (fs : List Function) (tight : Every (λ (f : Function). length f.arguments ≤ 8) fs) where
    pub row_kept : (at : ℕ) → All (RowKept fs at) (row_at s sorts l fs at)
    unfolding row_at
    row_kept at =
        all_then (field s at 7) _ (λ f p e.
        let a = field-read s at 7 e in
        all-must _ _ _ (λ b.
        let known : f < length fs = ltb-true _ _ b in
        let few : length (function_no fs f).arguments ≤ 8 = every_get tight f (function_no [] 0) known in
        all_then (field s p 1) _ (λ bit q d.
        let m = field-read s p 1 d in
        all_then (cells_at s sorts l (columns (function_no fs f)) q) _ (λ cells t g.
        let c = all-at (rw g at (cells-kept (columns (function_no fs f)) q)) in
        let n : length (columns (function_no fs f)) ≡ length (function_no fs f).arguments + 1 =
        length-append (function_no fs f).arguments _ in
        all-got
        (record {
          ok = record { known = known; bit = m.small; cells_ok = c.ok };
          near = omega (arith, a.end, m.end, c.near);
        })))))

    pub record RowsKept (at : ℕ) (rows : List Row) (q : ℕ) : Type 0 where
      pub ok : Every (RowOk sorts l fs) rows
      pub near : q ≤ at + 89 * length rows

    pub rows-kept : (n at : ℕ) → All (RowsKept at) (rows_at s sorts l fs n at)
    unfolding rows_at
    rows-kept n at =
        many-all _ (RowsKept at)
        (λ rows p h.
        all_map
        (λ r q k. record {
          ok = every-snoc h.ok k.ok;
          near = simp length-append (omega (arith, h.near, k.near));
        })
        (row_kept p))
        n at [] (record { ok = every-nil; near = omega arith })

  pub rows-length : (fs : List Function) (n at : ℕ) {rows : List Row} {q : ℕ} → rows_at s sorts l fs n at ≡ got rows q
      → length rows ≡ n
  unfolding rows_at
  rows-length fs n at e = many-length _ n at e
