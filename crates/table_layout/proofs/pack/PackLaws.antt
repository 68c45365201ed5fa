-- One row more is packed. Assumes nothing.
use mathlib.Core.Path.{◌≡◌, sym, ◌∙◌, subst}
use mathlib.Core.List.{List}
use Prim.{Dec, yes, no}
use Prim.Native.Nat.{ℕ, ◌+◌, ◌-◌, ◌<◌, ◌≤◌}
use native.Mathlib.Decide.{ℕ_discrete}
use native.Mathlib.Omega.{arith}
use lib.ListN.{length, get_or, drop, length-take, length-drop}
use Rattle.table_layout.specs.Rows.{HasRow, put_row}
use Rattle.table_layout.specs.Packed.{part_of, PackReady, PackedRow, Packed}
use Rattle.table_layout.proofs.RowLaws.{
  put-length,
  put-file-row,
  put_function,
  put-output,
  put_count,
  put-children,
  kept-file-row,
  kept-function,
  kept-output,
  kept-count,
  kept-children,
}

module _
    (order functions outputs starts children : List ℕ) (v : PackReady order functions outputs starts children)
    (i : ℕ) (h : i < length outputs) where
  pub part_length : length (part_of starts children i) ≡ get_or starts (i + 1) 0 - get_or starts i 0
  part_length =
      length-take (get_or starts (i + 1) 0 - get_or starts i 0) (drop (get_or starts i 0) children)
      ∙ omega (arith, length-drop (get_or starts i 0) children, v.inside i h, v.rise i h)

  pub part-few : length (part_of starts children i) ≤ 8
  part-few = omega (arith, part_length, v.few i h)

  module _
      (rows : List ℕ) (has : HasRow rows i) (p : Packed order functions outputs starts children rows i) where
    abbrev r : ℕ
    r = get_or order i 0

    abbrev f : ℕ
    f = get_or functions (get_or order i 0) 0

    abbrev c : ℕ
    c = get_or outputs i 0

    abbrev ks : List ℕ
    ks = part_of starts children i

    abbrev new : List ℕ
    new = put_row rows i r f c ks

    here : PackedRow order functions outputs starts children new i
    here = record {
      file_row = put-file-row rows i r f c ks has part-few;
      function = put_function rows i r f c ks has part-few;
      output = put-output rows i r f c ks has part-few;
      few = omega (arith, put_count rows i r f c ks has part-few, part-few);
      children_are = put-children rows i r f c ks has part-few;
    }

    there : (k : ℕ) → k < i + 1 → Dec (k ≡ i) → PackedRow order functions outputs starts children new k
    there k l (yes e) = subst (λ (x : ℕ). PackedRow order functions outputs starts children new x) (sym e) here
    there k l (no e) =
        let q = p.each k (omega (arith, l, e)) in
        record {
          file_row = kept-file-row rows i r f c ks has part-few k e ∙ q.file_row;
          function = kept-function rows i r f c ks has part-few k e ∙ q.function;
          output = kept-output rows i r f c ks has part-few k e ∙ q.output;
          few = omega (arith, kept-count rows i r f c ks has part-few k e, q.few);
          children_are = kept-children rows i r f c ks has part-few k e q.few ∙ q.children_are;
        }

    pub packed-next : Packed order functions outputs starts children new (i + 1)
    packed-next = record {
      long = omega (arith, put-length rows i r f c ks has part-few);
      each = λ k l. there k l (ℕ_discrete k i);
    }
