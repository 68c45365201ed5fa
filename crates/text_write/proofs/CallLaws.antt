-- What a call of the writer or of its measure goes by, and the text by the case that the code is in. Assumes nothing.
use Prim.Native.Nat.{◌+◌, ◌-◌, ◌^◌, ◌≤◌, ℕ, ◌<◌}
use mathlib.Core.Path.{◌≡◌, ◌∙◌}
use mathlib.Core.List.{List, [], ◌∷◌, ◌++◌}
use lib.ListN.{get_or}
use Rattle.text_rules.specs.Forms.{each, form}
use Rattle.text_pieces.specs.Pieces.{name_text}
use Rattle.term_rules.specs.Lent.{kind_at, kids_at}
use Rattle.text_pieces.specs.Readable.{head_text}
use Rattle.text_pieces.specs.Read.{nodes_of}
use Rattle.text_write.specs.Piece.{View, gap_of, piece}
use Rattle.text_write.specs.declared.page.Page.{Page}
use Rattle.text_write.specs.Seen.{view_of}
use Rattle.text_write.proofs.PieceLaws.{
  body-step,
  piece-of-named,
  piece-of-unnamed,
  lower-of-readable,
  form-of-leaf,
  form-of-applied,
}

-- what a call goes by
pub record Call : Type 0 where
  pub page : Page
  pub limit : ℕ
  pub lim : ℕ
  pub m : ℕ
  pub i : ℕ
  pub t : ℕ
  pub below : t < page.nodes.n

abbrev pub call : (p : Page) → ℕ → ℕ → ℕ → ℕ → (t : ℕ) → t < p.nodes.n → Call
call p limit lim m i t k = record { page = p; limit = limit; lim = lim; m = m; i = i; t = t; below = k }

-- what the call goes by, and what it writes or measures
abbrev pub seen : Call → View
seen s =
    view_of s.page s.limit

abbrev pub text : Call → List ℕ
text s = piece (seen s) s.lim s.m s.i s.t

abbrev pub head : Call → List ℕ
head s = head_text (nodes_of s.page.nodes s.t)

abbrev pub gap : Call → List ℕ
gap s = gap_of (seen s) s.m s.i s.t

abbrev pub child : Call → ℕ → List ℕ
child s = piece (seen s) 0 s.m (s.i + 2)

abbrev pub kids : Call → List ℕ
kids s = kids_at s.page.nodes.records.now s.t

abbrev pub place_of : Call → ℕ
place_of s = get_or s.page.places.now s.t 0

abbrev pub kind_of : Call → ℕ
kind_of s = kind_at s.page.nodes.records.now s.t

pub counts : (s : Call) → s.page.spelling.start + place_of s ≤ 2 ^ 62
counts s = s.page.sheet.count_low s.t s.below

-- the text, by the case that the code is in
pub by_name :
    (s : Call) →
    s.lim < place_of s →
    text s ≡ name_text s.page.spelling.stem.now s.page.spelling.start s.page.spelling.bare (place_of s - 1)
by_name s l = piece-of-named (seen s) s.lim s.m s.i s.t l

pub by_form : (s : Call) → place_of s ≤ s.lim
    → text s ≡ form (gap s) (child s) ((seen s).node s.t)
by_form s l =
    piece-of-unnamed (seen s) s.lim s.m s.i s.t l
    ∙ body-step (seen s) s.page.nodes.n
    (lower-of-readable s.page.nodes.records.now s.page.nodes.literals.now s.page.nodes.names.now s.page.nodes.n
    s.page.sheet.readable)
    s.m s.i s.t s.below

pub by-leaf : (s : Call) → place_of s ≤ s.lim → (kind_of s ≡ 2 → ⊥) → text s ≡ head s
by-leaf s l e =
    by_form s l
    ∙ form-of-leaf s.page.nodes.records.now s.page.nodes.literals.now s.page.nodes.names.now s.page.nodes.n
    s.page.sheet.readable s.t s.below (gap s) (child s) e

pub by-app :
    (s : Call) →
    place_of s ≤ s.lim →
    kind_of s ≡ 2 →
    text s ≡ head s ++ (each (gap s) (child s) (kids s) ++ (41 ∷ []))
by-app s l e =
    by_form s l
    ∙ form-of-applied s.page.nodes.records.now s.page.nodes.literals.now s.page.nodes.names.now s.page.nodes.n
    s.page.sheet.readable s.t s.below (gap s) (child s) e
