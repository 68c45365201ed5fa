-- Laws of the reading of a row's cells. Assumes nothing.
use Prim.Native.Nat.{ℕ, ◌+◌, ◌*◌, ◌≤◌, ◌<◌}
use mathlib.Core.Bool.{Bool, true, false}
use mathlib.Core.List.{List, [], ◌∷◌, ◌++◌}
use mathlib.Core.Path.{◌≡◌, refl, sym}
use native.Mathlib.Omega.{arith}
use lib.Dec.{ltb}
use lib.ListN.{length, set, get_or}
use borrow.Author.Tests.{lt-ltb, le-ltb, eq-eqb, ne_eqb}
use Rattle.refusal.specs.declared.Refusal.{Refusal}
use Rattle.refusal.specs.declared.Refusal.TheVariants.{BadValue}
use Rattle.bits.specs.Got.{got, refused, then, must, pick}
use Rattle.bits.specs.Field.{field}
use Rattle.bits.proofs.FieldLaws.{field-read}
use Rattle.bits.proofs.GotLaws.{Loop, loop-start, loop-more, loop-refuses, loop-ends}
use Rattle.file_rules.specs.Rows.{cell_at}
use Rattle.file_rules.proofs.ArraysLaws.{sets-snoc}
use Rattle.file_rows.specs.In.{range_in, column_in, cell_in, cells_in, PutCells, Sound}

-- The bound of a cell, by the sort's kind.
module _ (kinds classes : List ℕ) (l k : ℕ) where
  pub range-when-eq : get_or kinds k 0 ≡ 1 → range_in kinds classes l k ≡ get_or classes k 0
  unfolding range_in pick
  range-when-eq e = rw (eq-eqb _ _ e)

  pub range-when-base : (get_or kinds k 0 ≡ 1 → ⊥) → range_in kinds classes l k ≡ l
  unfolding range_in pick
  range-when-base o = rw (ne_eqb _ _ o)

-- The sort of a column, by its place.
module _ (outputs arities arguments : List ℕ) (f j : ℕ) where
  pub column-when-argument : j < get_or arities f 0
      → column_in outputs arities arguments f j ≡ get_or arguments (f * 8 + j) 0
  unfolding column_in pick
  column-when-argument h = rw (lt-ltb _ _ h)

  pub column-when-output : get_or arities f 0 ≤ j → column_in outputs arities arguments f j ≡ get_or outputs f 0
  unfolding column_in pick
  column-when-output h = rw (le-ltb _ _ h)

  small_by : (b : Bool) → Sound outputs arities arguments
      → pick b (get_or arguments (f * 8 + j) 0) (get_or outputs f 0) < 32
  unfolding pick
  small_by true s = s.arguments_small.below (f * 8 + j)
  small_by false s = s.outputs_small.below f

  pub column-small : Sound outputs arities arguments → column_in outputs arities arguments f j < 32
  unfolding column_in
  column-small s = small_by (ltb j (get_or arities f 0)) s

module _ (s : List ℕ) (bound at : ℕ) where
  pub cell-refused : {r : Refusal} → field s at 9 ≡ refused r → cell_at s bound at ≡ refused r
  unfolding cell_at then
  cell-refused e = rw e

  module _ {v q : ℕ} (e : field s at 9 ≡ got v q) where
    pub cell-over : bound ≤ v → cell_at s bound at ≡ refused BadValue
    unfolding cell_at then must
    cell-over h = rw (e, le-ltb _ _ h)

    pub cell_in-read : v < bound → cell_at s bound at ≡ got v q
    unfolding cell_at then must
    cell_in-read h = rw (e, lt-ltb _ _ h)

-- The loop over the cells of a row from at: those of xs are read up to p and stand from place `from` on.
pub record Cells-read (s kinds classes : List ℕ) (l : ℕ) (outputs arities arguments : List ℕ) (f at from : ℕ)
    (cells₀ cells : List ℕ) (p j : ℕ) : Type 0 where
  pub xs : List ℕ
  pub loop : Loop (cell_in s kinds classes l outputs arities arguments f) (get_or arities f 0 + 1) at p j xs
  pub near : p ≤ at + 9 * j
  pub held : PutCells from cells₀ cells xs

module _ {s kinds classes : List ℕ} {l : ℕ} {outputs arities arguments : List ℕ} {f at from : ℕ}
    {cells₀ : List ℕ} where
  pub cells-start : Cells-read s kinds classes l outputs arities arguments f at from cells₀ cells₀ at 0
  cells-start = record { xs = []; loop = loop-start; near = omega arith; held = record { put = refl } }

  module _ {cells : List ℕ} {p j : ℕ}
      (o : Cells-read s kinds classes l outputs arities arguments f at from cells₀ cells p j)
      (h : j < get_or arities f 0 + 1) {bound : ℕ}
      (b : bound ≡ range_in kinds classes l (column_in outputs arities arguments f j)) where
    bound-is : bound ≡ range_in kinds classes l (column_in outputs arities arguments f (length o.xs))
    bound-is = rw o.loop.some b

    pub cells-more : {v q : ℕ} → field s p 9 ≡ got v q → v < bound
        → Cells-read s kinds classes l outputs arities arguments f at from cells₀ (set cells (from + j) v) q (j + 1)
    cells-more {v} {q} e d =
        let k = field-read s p 9 e in
        record {
          xs = o.xs ++ (v ∷ []);
          loop = loop-more o.loop h (rw (← bound-is) (cell_in-read s bound p e d));
          near = omega (arith, k.end, o.near);
          held = record { put = rw (o.held.put, ← o.loop.some) (sym (sets-snoc cells₀ from o.xs v)) };
        }

    pub cells-refuse : {r : Refusal} → cell_at s bound p ≡ refused r
        → cells_in s kinds classes l outputs arities arguments f at ≡ refused r
    unfolding cells_in
    cells-refuse e = loop-refuses o.loop h (rw (← bound-is) e)

  pub cells-end : {cells : List ℕ} {p j : ℕ}
      (o : Cells-read s kinds classes l outputs arities arguments f at from cells₀ cells p j)
      → get_or arities f 0 + 1 ≤ j → cells_in s kinds classes l outputs arities arguments f at ≡ got o.xs p
  unfolding cells_in
  cells-end o h = loop-ends o.loop h
