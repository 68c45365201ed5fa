-- Laws of the reading of rows against the arrays. Assumes nothing.
use Prim.Native.Nat.{ℕ, ◌+◌, ◌*◌, ◌≤◌, ◌<◌}
use mathlib.Core.List.{List, [], ◌∷◌, ◌++◌}
use mathlib.Core.Path.{◌≡◌, refl, sym, ap, ◌∙◌}
use native.Mathlib.Omega.{arith}
use lib.ListN.{length, get_or, length-append}
use lib.Seq.{sets, sets-eq}
use borrow.Author.Tests.{lt-ltb, le-ltb}
use Rattle.refusal.specs.declared.Refusal.{Refusal}
use Rattle.refusal.specs.declared.Refusal.TheVariants.{BadFunction}
use Rattle.bits.specs.Got.{got, refused, then, must, many}
use Rattle.bits.specs.Field.{field}
use Rattle.bits.proofs.FieldLaws.{field-read}
use Rattle.bits.proofs.GotLaws.{
  All,
  all-got,
  all-at,
  all_of,
  all_map,
  all_then,
  all-must,
  many-all,
  many-length,
  Loop,
  loop-start,
  loop-more,
  loop-refuses,
  loop-ends,
}
use Rattle.file_rules.specs.declared.Rows.{Rows}
use Rattle.file_rules.specs.Table.{Row}
use Rattle.file_rules.specs.Every.{Every, every-nil}
use Rattle.file_rules.specs.Rows.{cell_at}
use Rattle.file_rules.specs.Arrays.{pad, blocks, HoldsRows}
use Rattle.file_rules.specs.Held.{empty}
use Rattle.file_rules.proofs.ArraysLaws.{pad_with-nil, pad_with-length, pad-set-map}
use Rattle.file_rules.proofs.BlockLaws.{every-snoc, every_map, blocks-snoc, blocks-length, pad-block, pad-of-pad}
use Rattle.file_rows.specs.In.{cell_in, cells_in, row_in, rows_in, Sound, Zeros, PutRow}

cell-end : (s : List ℕ) (bound at : ℕ) → All (λ v q. q ≡ at + 9) (cell_at s bound at)
unfolding cell_at
cell-end s bound at =
    all_then (field s at 9) _ (λ v p e. all-must _ _ _ (λ _. all-got (field-read s at 9 e).end))

-- Where the readings of cells and of a row end.
module _ (s kinds classes : List ℕ) (l : ℕ) (outputs arities arguments : List ℕ)
    (sound : Sound outputs arities arguments) where
  abbrev CellsEnd : ℕ → List ℕ → ℕ → Type 0
  CellsEnd at xs q = q ≤ at + 9 * length xs

  cells-near : (f n at : ℕ) → All (CellsEnd at) (many (cell_in s kinds classes l outputs arities arguments f) n at [])
  cells-near f n at =
      many-all _ (CellsEnd at)
      (λ xs p h.
      all_map
      (λ v q e.
      let d : q ≡ p + 9 = e in
      let b : p ≤ at + 9 * length xs = h in
      simp length-append (omega arith))
      (cell-end s _ p))
      n at [] (omega arith)

  pub cells-kept : (f at : ℕ)
      → All (λ xs q. (length xs ≤ 9) × (q ≤ at + 81)) (cells_in s kinds classes l outputs arities arguments f at)
  unfolding cells_in
  cells-kept f at =
      all_of _ (λ xs q e.
      let n : length xs ≡ get_or arities f 0 + 1 = many-length _ _ at e in
      let m : q ≤ at + 9 * length xs = all-at (rw e at (cells-near f (get_or arities f 0 + 1) at)) in
      let b = sound.arities_small.below f in
      (omega arith, omega arith))

  pub row_kept : (count at : ℕ)
      → All (λ r q. (length r.cells ≤ 9) × (q ≤ at + 89))
      (row_in s kinds classes l count outputs arities arguments at)
  unfolding row_in
  row_kept count at =
      all_then (field s at 7) _ (λ f p e.
      let a = field-read s at 7 e in
      all-must _ _ _ (λ _. all_then (field s p 1) _ (λ bit q d.
      let b = field-read s p 1 d in
      all_then (cells_in s kinds classes l outputs arities arguments f q) _ (λ cells t g.
      let c = all-at (rw g at (cells-kept f q)) in
      all-got (c.0, omega (arith, c.1, a.end, b.end))))))

-- The ways that the reading of a row goes.
module _ (s kinds classes : List ℕ) (l count : ℕ) (outputs arities arguments : List ℕ) (at : ℕ) where
  pub row-refused : {r : Refusal} → field s at 7 ≡ refused r
      → row_in s kinds classes l count outputs arities arguments at ≡ refused r
  unfolding row_in then
  row-refused e = rw e

  module _ {f p : ℕ} (e : field s at 7 ≡ got f p) where
    pub row-none : count ≤ f → row_in s kinds classes l count outputs arities arguments at ≡ refused BadFunction
    unfolding row_in then must
    row-none h = rw (e, le-ltb _ _ h)

    module _ (h : f < count) where
      pub row_cut : {r : Refusal} → field s p 1 ≡ refused r
          → row_in s kinds classes l count outputs arities arguments at ≡ refused r
      unfolding row_in then must
      row_cut d = rw (e, lt-ltb _ _ h, d)

      pub row_from : {bit q : ℕ} → field s p 1 ≡ got bit q
          → row_in s kinds classes l count outputs arities arguments at
          ≡ then (cells_in s kinds classes l outputs arities arguments f q)
          (λ cells t. got (record { function = f; subsumed = bit; cells = cells }) t)
      unfolding row_in then must
      row_from d = rw (e, lt-ltb _ _ h, d)

-- The 9 places of a row's cells.
abbrev pub places_of : Row → List ℕ
places_of r = pad 9 r.cells

places-length : {rows : List Row} → Every (λ (r : Row). length r.cells ≤ 9) rows
    → length (blocks places_of rows) ≡ length rows * 9
places-length h =
    blocks-length places_of 9 (every_map (λ (r : Row) (l : length r.cells ≤ 9). pad_with-length 0 9 r.cells l) h)

cells-more : (rows : List Row) (r : Row) (i : ℕ) → Every (λ (r : Row). length r.cells ≤ 9) rows
    → length rows ≡ i → i < 1024 → length r.cells ≤ 9
    → sets (pad 9216 (blocks places_of rows)) (i * 9) r.cells ≡ pad 9216 (blocks places_of (rows ++ (r ∷ [])))
cells-more rows r i h c b l =
    let xs : List ℕ = r.cells in
    let n : length (blocks places_of rows) ≡ i * 9 = rw (← c) (places-length h) in
    let m : length (pad 9216 (blocks places_of rows)) ≡ 9216 =
    pad_with-length 0 9216 (blocks places_of rows) (omega arith) in
    sets-eq xs (pad 9216 (blocks places_of rows)) (i * 9) (omega arith)
    ∙ pad-block 9216 (blocks places_of rows) xs (i * 9) (i * 9 + length xs) n refl (omega arith)
    ∙ sym (pad-of-pad 9216 9 (blocks places_of rows) xs l (omega arith))
    ∙ ap (pad 9216) (sym (blocks-snoc places_of rows r))

-- Rows of which none is read.
pub zeros_of : {r : Rows} → r ≡ empty.rows → Zeros r.functions r.subsumed r.cells
zeros_of e = rw e (record { functions_zero = refl; subsumed_zero = refl; cells_zero = refl })

-- The loop over n rows from at: those of rows are read up to p and stand in the arrays.
pub record Rows-read (s kinds classes : List ℕ) (l count : ℕ) (outputs arities arguments : List ℕ) (at n : ℕ)
    (functions subsumed cells : List ℕ) (p i : ℕ) : Type 0 where
  pub rows : List Row
  pub loop : Loop (λ rows p. row_in s kinds classes l count outputs arities arguments p) n at p i rows
  pub near : p ≤ at + 89 * i
  pub tight : Every (λ (r : Row). length r.cells ≤ 9) rows
  pub held : HoldsRows functions subsumed cells rows

module _ {s kinds classes : List ℕ} {l count : ℕ} {outputs arities arguments : List ℕ} {at n : ℕ}
    {functions subsumed cells : List ℕ} where
  pub rows_start : Zeros functions subsumed cells
      → Rows-read s kinds classes l count outputs arities arguments at n functions subsumed cells at 0
  unfolding blocks
  rows_start z =
      record {
        rows = [];
        loop = loop-start;
        near = omega arith;
        tight = every-nil;
        held =
            record {
              functions_are = z.functions_zero ∙ sym (pad_with-nil 0 1024);
              subsumed_are = z.subsumed_zero ∙ sym (pad_with-nil 0 1024);
              cells_are = z.cells_zero ∙ sym (pad_with-nil 0 9216);
            };
      }

  module _ {p i : ℕ} (o : Rows-read s kinds classes l count outputs arities arguments at n functions
      subsumed cells p i) where
    pub rows_more : {functions' subsumed' cells' : List ℕ} {r : Row} {q : ℕ} → Sound outputs arities arguments
        → n ≤ 1024 → i < n
        → row_in s kinds classes l count outputs arities arguments p ≡ got r q
        → PutRow i functions subsumed cells functions' subsumed' cells' r
        → Rows-read s kinds classes l count outputs arities arguments at n functions' subsumed' cells' q (i + 1)
    rows_more {r = r} {q = q} sound c h e u =
        let k = all-at (rw e at (row_kept s kinds classes l outputs arities arguments sound count p)) in
        let m = o.loop.some in
        let b : i < 1024 = omega arith in
        record {
          rows = o.rows ++ (r ∷ []);
          loop = loop-more o.loop h e;
          near = omega (arith, k.1, o.near);
          tight = every-snoc o.tight k.0;
          held =
              record {
                functions_are =
                    u.functions_put
                    ∙ rw o.held.functions_are (pad-set-map 1024 (λ (r : Row). r.function) o.rows i r m b refl);
                subsumed_are =
                    u.subsumed_put
                    ∙ rw o.held.subsumed_are (pad-set-map 1024 (λ (r : Row). r.subsumed) o.rows i r m b refl);
                cells_are = u.cells_put ∙ rw o.held.cells_are (cells-more o.rows r i o.tight m b k.0);
              };
        }

    pub rows-refuse : {x : Refusal} → i < n → row_in s kinds classes l count outputs arities arguments p ≡ refused x
        → rows_in s kinds classes l count outputs arities arguments n at ≡ refused x
    unfolding rows_in
    rows-refuse h e = loop-refuses o.loop h e

    pub rows_end : n ≤ i → rows_in s kinds classes l count outputs arities arguments n at ≡ got o.rows p
    unfolding rows_in
    rows_end h = loop-ends o.loop h

-- As many rows as were asked for.
pub rows_in-length : (s kinds classes : List ℕ) (l count : ℕ) (outputs arities arguments : List ℕ) (n at : ℕ)
    {rows : List Row} {q : ℕ}
    → rows_in s kinds classes l count outputs arities arguments n at ≡ got rows q → length rows ≡ n
unfolding rows_in
rows_in-length s kinds classes l count outputs arities arguments n at e = many-length _ n at e

-- n rows take at most 89 n bits.
pub rows_in-near : (s kinds classes : List ℕ) (l count : ℕ) (outputs arities arguments : List ℕ)
    → Sound outputs arities arguments
    → (n at : ℕ) {rows : List Row} {q : ℕ} → rows_in s kinds classes l count outputs arities arguments n at ≡ got rows q
    → q ≤ at + 89 * n
unfolding rows_in
rows_in-near s kinds classes l count outputs arities arguments sound n at {rows} {q} e =
    let c : length rows ≡ n = many-length _ n at e in
    let b : q ≤ at + 89 * length rows = all-at (rw e at (many-all _ (λ rows q. q ≤ at + 89 * length rows)
    (λ rows p h.
    all_map
    (λ r q k.
    let b : p ≤ at + 89 * length rows = h in
    simp length-append (omega (arith, k.1)))
    (row_kept s kinds classes l outputs arities arguments sound count p))
    n at [] (omega arith))) in
    omega arith
