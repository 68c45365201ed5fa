-- The lines of the bindings as they are written. Assumes nothing: these are definitions.
use Rattle.std.specs.Prelude.{
  true,
  false,
  List,
  [],
  ◌∷◌,
  ◌++◌,
  ℕ,
  zero,
  suc,
  ◌+◌,
  ◌*◌,
  ◌^◌,
  ◌<◌,
  ◌≤◌,
  length,
  get_or,
  eqb,
  ltb,
}
use Rattle.text_pieces.specs.Pieces.{gap_text}
use Rattle.term_rules.specs.Lent.{arity_at}
use Rattle.text_write.specs.Piece.{View, body}

-- the width that decides whether a body at indent i is broken: a term without children never is
unfoldable pub body_width : List ℕ → List ℕ → ℕ → ℕ → ℕ
body_width rs ws i t = elim (eqb (arity_at rs t) 0) [ true ↦ 0 | false ↦ i + get_or ws t 0 ]

-- "(let " and a name
abbrev pub open_text : List ℕ → List ℕ
open_text name = (40 ∷ 108 ∷ 101 ∷ 116 ∷ 32 ∷ []) ++ name

-- the line of binding k: term t, met at indent i
unfoldable pub line_text : View → List ℕ → List ℕ → ℕ → ℕ → ℕ → List ℕ
line_text v rs ws i t k =
    ((open_text (v.name k) ++ gap_text (ltb 80 (body_width rs ws i t)) 2) ++ body v 2 i t) ++ (41 ∷ 10 ∷ [])

-- the lines of the first k bindings
unfoldable pub lines_to : View → List ℕ → List ℕ → List ℕ → List ℕ → ℕ → List ℕ
lines_to v rs ws terms indents zero = []
lines_to v rs ws terms indents (suc k) =
    lines_to v rs ws terms indents k ++ line_text v rs ws (get_or indents k 0) (get_or terms k 0) k

-- the tables of m bindings of the first n terms
pub record Bundle (terms indents : List ℕ) (n m start : ℕ) : Type 0 where
  pub in_terms : m ≤ length terms
  pub in_indents : m ≤ length indents
  pub known : (k : ℕ) → k < m → get_or terms k 0 < n
  pub deep : (k : ℕ) → k < m → 2 + get_or indents k 0 + 2 * get_or terms k 0 ≤ 4096
  pub low : start + m ≤ 2 ^ 62
