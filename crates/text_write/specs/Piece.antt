-- The text of a term as it is written: one form, whose gap is a space or a new line. Assumes nothing: these are
-- definitions.
use Rattle.std.specs.Prelude.{
  Bool,
  true,
  false,
  List,
  [],
  ℕ,
  zero,
  suc,
  ◌+◌,
  ◌-◌,
  ◌^◌,
  ◌<◌,
  ◌≤◌,
  length,
  get_or,
  ℤ,
  ltb,
}
use Rattle.term_rules.specs.Nodes.{Node}
use Rattle.text_rules.specs.Forms.{form}
use Rattle.text_pieces.specs.Pieces.{name_text, gap_text}
use Rattle.text_pieces.specs.Readable.{nodes, Readable}

-- what the writer goes by: the terms, their places (0 without a let name, else one more than the number of the
-- binding), the names of the bindings, the inline lengths, and the width above which an application breaks
pub record View : Type 0 where
  pub node : ℕ → Node
  pub place : ℕ → ℕ
  pub name : ℕ → List ℕ
  pub wide : ℕ → ℕ
  pub limit : ℕ

-- a term's let name, if its place is above lim; else the text that is given
unfoldable pub shown_above : View → ℕ → ℕ → List ℕ → List ℕ
shown_above v lim t text = elim (ltb lim (v.place t)) [ true ↦ v.name (v.place t - 1) | false ↦ text ]

unfoldable pub shown_in : View → (ℕ → List ℕ) → ℕ → List ℕ
shown_in v text k = shown_above v 0 k (text k)

-- what stands before each child of t at indent i, m more spaces on a new line
abbrev pub gap_of : View → ℕ → ℕ → ℕ → List ℕ
gap_of v m i t = gap_text (ltb v.limit (i + v.wide t)) (m + i + 2)

-- the text of t itself, where f is above t
unfoldable pub body_in : View → ℕ → ℕ → ℕ → ℕ → List ℕ
body_in v zero m i t = []
body_in v (suc f) m i t = form (gap_of v m i t) (shown_in v (body_in v f m (i + 2))) (v.node t)

unfoldable pub body : View → ℕ → ℕ → ℕ → List ℕ
body v m i t = body_in v (suc t) m i t

-- what is written for t
unfoldable pub piece : View → ℕ → ℕ → ℕ → ℕ → List ℕ
piece v lim m i t = shown_above v lim t (body v m i t)

-- the view of the lent lists and of the call's own tables
abbrev pub view : List ℕ → List ℤ → List ℕ → List ℕ → List ℕ → List ℕ → ℕ → Bool → ℕ → View
view rs ls ns ps ws stem start bare limit = record {
  node = nodes rs ls ns;
  place = λ (t : ℕ). get_or ps t 0;
  name = name_text stem start bare;
  wide = λ (t : ℕ). get_or ws t 0;
  limit = limit;
}

-- what the writer relies on
pub record Sheet (rs : List ℕ) (ls : List ℤ) (ns ps ws : List ℕ) (n start : ℕ) : Type 0 where
  pub readable : Readable rs ls ns n
  pub in_places : n ≤ length ps
  pub in_wides : n ≤ length ws
  pub count_low : (t : ℕ) → t < n → start + get_or ps t 0 ≤ 2 ^ 62
  pub wide_low : (t : ℕ) → t < n → get_or ws t 0 ≤ 2 ^ 63
