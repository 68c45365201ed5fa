-- The laws of a text placed in the lent part, and of a table of zeros. Assumes nothing.
use mathlib.Core.Path.{◌≡◌, refl}
use mathlib.Core.List.{List, ◌++◌}
use Prim.Native.Nat.{ℕ, zero, suc, ◌<◌, ◌≤◌}
use lib.ListN.{length, drop, replicate}
use lib.IntN.{ℤ}
use borrow.Author.Tests.{le-leb, lt-leb}
use Rattle.term_rules.specs.Lent.{store}
use Rattle.term_rules.specs.Nodes.{node_of, node_at}
use Rattle.text_rules.specs.PlainText.{plain_line, plain_text}
use Rattle.text_pieces.specs.Readable.{nodes}
use Rattle.text_whole.specs.Placed.{told, placed, Zeros}

module _ {A : Type 0} (text : List ℕ) (done no_room : A) (out : List ℕ) where
  pub placed-fits : length text ≤ length out → placed text done no_room out ≡ told done (text ++ drop (length text)
      out)
  unfolding placed
  placed-fits l = rw (le-leb (length text) (length out) l, placed)

  pub placed-refuses : length out < length text → placed text done no_room out ≡ told no_room out
  unfolding placed
  placed-refuses l = rw (lt-leb (length text) (length out) l, placed)

-- a term's node does not depend on the counts, so neither does its plain text
pub plain-text-nodes :
    (rs : List ℕ) (ls : List ℤ) (ns : List ℕ) (terms symbols t : ℕ) →
    plain_text (store rs ls ns terms symbols) t ≡ plain_line (nodes rs ls ns) t
unfolding plain_text node_at node_of
plain-text-nodes rs ls ns terms symbols t = refl

-- a table of zeros
pub zeros-get : (n : ℕ) → Zeros (replicate n 0)
zeros-get zero k = refl
zeros-get (suc n) zero = refl
zeros-get (suc n) (suc k) = zeros-get n k
