-- The lists that a loaded table leaves have what the variants are sorted by. Assumes nothing.
use mathlib.Core.Path.{◌≡◌, ap, sym, ◌∙◌}
use mathlib.Core.List.{List}
use Prim.Native.Nat.{ℕ, ◌+◌, ◌*◌, ◌-◌, ◌<◌, ◌≤◌}
use native.Mathlib.Omega.{arith}
use lib.IntN.{ℤ}
use lib.ListN.{length, take, drop}
use Rattle.file_rules.specs.Table.{Row, Table}
use Rattle.file_rules.specs.Every.{Every}
use Rattle.file_rules.specs.Arrays.{pad, blocks}
use Rattle.file_rules.proofs.ArraysLaws.{pad_with-length}
use Rattle.file_rules.proofs.BlockLaws.{every_map, blocks-length}
use Rattle.table_rules.specs.Rules.Rows.{no_table_row, table_row_of}
use Rattle.table_rules.specs.Rules.Facts.{Known, arity_of}
use Rattle.table_rows.proofs.Held.PlaceLaws.{block-take}
use Rattle.table_rows.proofs.Held.HeldLaws.{every-of-get}
use Rattle.table_rows.specs.Loading.{Standing}
use Rattle.std.specs.Prelude.{Result, Ok}
use Rattle.refusal.specs.declared.Refusal.{Refusal}
use Rattle.table_rows.specs.declared.Loaded.{Loaded}
use Rattle.table_rows.specs.declared.Loaded.TheVariants.{Class}
use Rattle.variant_order.specs.Arrays.{cells_in}
use Rattle.variants_root.specs.Flat.{VariantTable}
use Rattle.variants_root.specs.Several.{KeyedTable}
use Rattle.table_roots.proofs.TableLaws.{functions-length, laid, flat-table}

module _
    (t : Table) (known : Known t) (root : ℕ) (r : Result Loaded Refusal) (values : List ℤ)
    (labels arities functions cells order flat heads starts children : List ℕ)
    (h : Standing t root r values labels arities functions cells order flat heads starts children) where
  few-cells : Every (λ (x : Row). length x.cells ≤ 9) t.rows
  few-cells =
      every-of-get (λ (x : Row). length x.cells ≤ 9) t.rows no_table_row
      (λ i l. omega (arith, known.cells i l, known.arity (table_row_of t i).function (known.function i l)))

  pub cells-length : 9216 ≡ length cells
  cells-length =
      let w = every_map (λ (x : Row) (l : length x.cells ≤ 9). pad_with-length 0 9 x.cells l) few-cells in
      let b = blocks-length (λ (x : Row). pad 9 x.cells) 9 w in
      rw h.cells_are
      (sym (pad_with-length 0 9216 (blocks (λ (x : Row). pad 9 x.cells) t.rows)
      (omega (arith, b, known.few_rows))))

  row-cells : (i : ℕ) → i < length t.rows → cells_in cells i (arity_of t i) ≡ (table_row_of t i).cells
  row-cells i l =
      let n : i * 9 + arity_of t i + 1 - i * 9 ≡ length (table_row_of t i).cells = omega (arith, known.cells i l) in
      ap (λ (k : ℕ). take k (drop (i * 9) cells)) n
      ∙ ap (λ (x : List ℕ). take (length (table_row_of t i).cells) (drop (i * 9) x)) h.cells_are
      ∙ block-take 9216 9 (λ (x : Row). x.cells) t.rows few-cells no_table_row i l

  module _ (c n m w : ℕ) (e : r ≡ Ok (Class c (record { rows = n; children = m; classes = w }))) (below : root < length t.sorts) where
    keyed :
        VariantTable t root (take n flat) (take n heads) (take (n + 1) starts) (take m children) (take n order)
        functions labels values cells
    keyed = record {
      is =
          flat-table t known root r values labels arities functions cells order flat heads starts children h c n m w e
          below;
      cells_long =
          omega (
            arith,
            cells-length,
            functions-length t known root r values labels arities functions cells order flat heads starts children h,
          );
      cells_are = row-cells;
    }

    pub keyed-table : KeyedTable t root n m w order flat heads starts children functions labels values cells
    keyed-table =
        let d =
        laid t known root r values labels arities functions cells order flat heads starts children h c n m w e below in
        record {
          order_room = d.order_room;
          flat_room = d.flat_room;
          heads_room = d.heads_room;
          starts_room = d.starts_room;
          children_room = d.children_room;
          classes_are = d.classes_are;
          is = keyed;
        }
