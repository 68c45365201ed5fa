-- The lines of variants as they are written from lists of costs and terms: document 01, 'The program'. Assumes nothing:
-- definitions.
use Rattle.std.specs.Prelude.{ℕ, zero, suc, ◌<◌, ◌≤◌, false, List, [], ◌∷◌, ◌++◌, length, get_or, ℤ}
use Rattle.term_rules.specs.Nodes.{Node}
use Rattle.text_rules.specs.PlainText.{plain_line}
use Rattle.text_pieces.specs.Readable.{nodes, Readable}
use Rattle.text_write.specs.Widths.{called_by, Widths}
use Rattle.text_whole.specs.Placed.{Zeros}
use Rattle.program_rules.specs.Lines.{variant_line}

-- "`variant I C N` and the plain text": of term t, where the store has n terms.
unfoldable pub reply_text : (ℕ → Node) → ℕ → ℕ → ℕ → ℕ → List ℕ
reply_text node n i c t = variant_line i c n ++ (plain_line node t ++ (10 ∷ []))

-- Those of the first k costs and terms, I from 1.
unfoldable pub reply_texts : (ℕ → Node) → ℕ → List ℕ → List ℕ → ℕ → List ℕ
reply_texts node n costs terms zero = []
reply_texts node n costs terms (suc k) =
    reply_texts node n costs terms k ++ reply_text node n (suc k) (get_or costs k 0) (get_or terms k 0)

-- What is relied on: the first n terms can be read, no term has a let name, and the table has the lengths of their
-- plain texts.
pub record PlainSheet (rs : List ℕ) (ls : List ℤ) (ns ps ws : List ℕ) (n : ℕ) : Type 0 where
  pub readable : Readable rs ls ns n
  pub zeros : Zeros ps
  pub in_places : n ≤ length ps
  pub in_wides : n ≤ length ws
  pub widths : Widths (nodes rs ls ns) (called_by ps ns 0 false) ws n

-- The first k terms of the list are among the first n of the store.
pub record Within (costs terms : List ℕ) (n k : ℕ) : Type 0 where
  pub costs_long : k ≤ length costs
  pub terms_long : k ≤ length terms
  pub below : (j : ℕ) → j < k → get_or terms j 0 < n
