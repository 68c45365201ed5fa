-- What the table of plain lengths gives. Assumes nothing.
use mathlib.Core.Path.{◌≡◌}
use mathlib.Core.Bool.{false}
use mathlib.Core.List.{List}
use Prim.Native.Nat.{ℕ, ◌<◌}
use lib.ListN.{length, get_or}
use lib.IntN.{ℤ}
use Rattle.text_rules.specs.PlainText.{plain_line}
use Rattle.text_pieces.specs.Pieces.{capped}
use Rattle.text_pieces.specs.Readable.{nodes}
use Rattle.text_write.specs.Piece.{piece, view, Sheet}
use Rattle.text_whole.proofs.PlainLaws.{plain-wide, plain-sheet, plain-piece}
use Rattle.program.specs.Replies.{PlainSheet}

module _ (rs : List ℕ) (ls : List ℤ) (ns ps ws : List ℕ) (n : ℕ) (h : PlainSheet rs ls ns ps ws n) where
  pub wide_is : (t : ℕ) → t < n → get_or ws t 0 ≡ capped (length (plain_line (nodes rs ls ns) t))
  wide_is = plain-wide rs ls ns ps ns n h.readable h.zeros ws h.widths

  pub sheet-is : Sheet rs ls ns ps ws n 0
  sheet-is = plain-sheet rs ls ns ps ns n h.readable h.zeros ws h.widths h.in_places h.in_wides

  pub piece_is :
      (t : ℕ) →
      t < n →
      piece (view rs ls ns ps ws ns 0 false 18446744073709551615) 0 0 0 t ≡ plain_line (nodes rs ls ns) t
  piece_is = plain-piece rs ls ns ps ns n h.readable h.zeros ws h.widths
