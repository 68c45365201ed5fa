-- The view that lines and whole texts are written from: its limit is 80, and above every place a term's own text
-- stands. Assumes nothing.
use Prim.Native.Nat.{ℕ, ◌<◌}
use mathlib.Core.Path.{◌≡◌}
use Rattle.text_write.specs.declared.page.Page.{Page}
use Rattle.text_write.specs.Piece.{View, piece, body}
use Rattle.text_write.specs.Seen.{view_of}
use Rattle.text_write.proofs.PieceLaws.{piece-of-unnamed}
use native.Mathlib.Omega.{arith}

abbrev pub seen : Page → View
seen p = view_of p 80

-- no place is above the limit, so it is the term's own text
pub own-piece :
    (p : Page) (m i t : ℕ) → t < p.nodes.n → piece (seen p) 18446744073709551615 m i t ≡ body (seen p) m i t
own-piece p m i t l = piece-of-unnamed (seen p) 18446744073709551615 m i t (omega (arith, p.sheet.count_low t l))
