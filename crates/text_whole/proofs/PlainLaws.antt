-- The laws of plain text: what the tables hold, and that the writer writes it. Assumes nothing.
use mathlib.Core.Path.{◌≡◌, ap, ◌∙◌}
use mathlib.Core.Bool.{false}
use mathlib.Core.List.{List}
use Prim.Native.Nat.{ℕ, ◌<◌, ◌≤◌}
use native.Mathlib.Omega.{arith}
use lib.ListN.{length, get_or}
use lib.IntN.{ℤ}
use Rattle.text_rules.specs.Forms.{by_text}
use Rattle.text_rules.specs.PlainText.{plain_line}
use Rattle.text_pieces.specs.Pieces.{capped}
use Rattle.text_pieces.specs.Readable.{nodes, Readable}
use Rattle.text_write.specs.Piece.{piece, view, Sheet}
use Rattle.text_write.proofs.PieceLaws.{lower-of-readable}
use Rattle.text_write.specs.Widths.{called_by, Widths, Tables}
use Rattle.text_write.proofs.widths.WidthLaws.{called_by-text}
use Rattle.text_write.proofs.widths.FlatLaws.{line-called, piece-flat}
use Rattle.text_whole.specs.Placed.{Zeros}

module _ (rs : List ℕ) (ls : List ℤ) (ns ps stem : List ℕ) (n : ℕ) (r : Readable rs ls ns n) (z : Zeros ps) where
  pub plain-tables : (ws : List ℕ) → n ≤ length ps → n ≤ length ws → Tables rs ls ns ps ws n 0
  plain-tables ws p w =
      record { readable = r; in_places = p; in_wides = w; count_low = λ t k. omega (arith, z t) }

  module _ (ws : List ℕ) (w : Widths (nodes rs ls ns) (called_by ps stem 0 false) ws n) where
    -- the table holds the lengths of the plain texts
    pub plain-wide : (t : ℕ) → t < n → get_or ws t 0 ≡ capped (length (plain_line (nodes rs ls ns) t))
    unfolding plain_line
    plain-wide t k =
        w t k
        ∙ ap (λ (x : List ℕ). capped (length x))
        (line-called (nodes rs ls ns) (called_by ps stem 0 false) (λ (u : ℕ). by_text)
        (λ u. called_by-text ps stem 0 false u (z u)) t)

    pub plain-sheet : n ≤ length ps → n ≤ length ws → Sheet rs ls ns ps ws n 0
    plain-sheet p l = record {
      readable = r;
      in_places = p;
      in_wides = l;
      count_low = λ t k. omega (arith, z t);
      wide_low = λ t k. omega (arith, plain-wide t k);
    }

    -- and the writer, with no names and no limit, writes them
    pub plain-piece :
        (t : ℕ) →
        t < n →
        piece (view rs ls ns ps ws stem 0 false 18446744073709551615) 0 0 0 t ≡ plain_line (nodes rs ls ns) t
    unfolding plain_line
    plain-piece t k =
        piece-flat (view rs ls ns ps ws stem 0 false 18446744073709551615) n (lower-of-readable rs ls ns n r) z
        (λ u l. omega (arith, plain-wide u l)) 0 0 0 t k (omega (arith, r.few))
