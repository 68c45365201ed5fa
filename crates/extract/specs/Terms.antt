-- The term of a row in a store, each child by the tree that the edges' rows choose, and room for such terms.
-- Assumes nothing: definitions.
use Rattle.std.specs.Prelude.{List, [], ◌∷◌, ℕ, ◌<◌}
use Rattle.term_rules.specs.Lent.{Store}
use Rattle.term_rules.specs.Nodes.{Means}
use Rattle.choice_rules.specs.Rows.{row_at}
use Rattle.choice_rules.specs.Deriving.{node, Forest}
use Rattle.choice_rules.specs.Edges.{ChosenAll}
use Rattle.file_rules.specs.Table.{Table}
use Rattle.table_rules.specs.Rules.Rows.{table_rows}
use Rattle.table_rules.specs.Rules.Terms.{term_of}
use Rattle.table_rules.specs.Rules.Choosing.{Prices}
use Rattle.answer_rules.specs.Room.{Fits}

-- Term u of the store is that of row r of the file: the row over the trees that the edges' rows choose for its
-- children, down to their literals.
pub record RowTerm (t : Table) (p : Prices) (s : Store) (r u : ℕ) : Type 0 where
  pub children : Forest
  pub chosen : ChosenAll (table_rows t) p.row children (row_at (table_rows t) r).children
  pub below : u < s.terms
  pub means : Means s u (term_of t (node r children))

-- The terms are those of the rows, one for one.
pub data RowTerms (t : Table) (p : Prices) (s : Store) : List ℕ → List ℕ → Type 0 where
  no_terms : RowTerms t p s [] []
  more_terms :
      {r u : ℕ} {rows us : List ℕ} →
      RowTerm t p s r u →
      RowTerms t p s rows us →
      RowTerms t p s (r ∷ rows) (u ∷ us)

-- Some store that the first may become in its room holds the terms of the rows,
pub record HasRoomForRows (t : Table) (p : Prices) (s : Store) (rows : List ℕ) : Type 0 where
  pub store : Store
  pub numbers : List ℕ
  pub fits : Fits s store
  pub terms : RowTerms t p store rows numbers

-- or none does.
abbrev pub NoRoomForRows : Table → Prices → Store → List ℕ → Type 0
NoRoomForRows t p s rows = (s' : Store) (us : List ℕ) → Fits s s' → RowTerms t p s' rows us → ⊥
