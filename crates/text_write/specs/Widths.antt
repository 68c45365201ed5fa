-- The table of inline lengths. Assumes nothing: these are definitions.
use Rattle.std.specs.Prelude.{◌≡◌, Bool, true, false, List, ℕ, ◌+◌, ◌-◌, ◌^◌, ◌<◌, ◌≤◌, length, get_or, ℤ, ltb}
use Rattle.term_rules.specs.Nodes.{Node}
use Rattle.text_rules.specs.Forms.{Called, by_name, by_text, shown, line}
use Rattle.text_pieces.specs.Pieces.{capped, name_text}
use Rattle.text_pieces.specs.Readable.{Readable}

-- how a term is shown by the table of places: by its let name if its place is not 0
unfoldable pub called_by : List ℕ → List ℕ → ℕ → Bool → ℕ → Called
called_by ps stem start bare k =
    elim (ltb 0 (get_or ps k 0)) [ true ↦ by_name (name_text stem start bare (get_or ps k 0 - 1)) | false ↦ by_text ]

-- the inline lengths of the first n terms
abbrev pub Widths : (ℕ → Node) → (ℕ → Called) → List ℕ → ℕ → Type 0
Widths node called ws n = (k : ℕ) → k < n → get_or ws k 0 ≡ capped (length (line node called k))

-- what the pass relies on
pub record Tables (rs : List ℕ) (ls : List ℤ) (ns ps ws : List ℕ) (n start : ℕ) : Type 0 where
  pub readable : Readable rs ls ns n
  pub in_places : n ≤ length ps
  pub in_wides : n ≤ length ws
  pub count_low : (t : ℕ) → t < n → start + get_or ps t 0 ≤ 2 ^ 62

-- the length r of a child in its parent's line, where its own line has the capped length w
pub record ShownWide (called : Called) (w r : ℕ) : Type 0 where
  pub right : (text : List ℕ) → w ≡ capped (length text) → r ≡ capped (length (shown called text))
