-- The term that a tree of rows stands for. Assumes nothing: definitions.
use Rattle.std.specs.Prelude.{List, ℕ, ℤ, pos, get_or}
use Rattle.choice_rules.specs.Deriving.{Tree, leaf, node, Forest, none, more}
use Rattle.term_rules.specs.Nodes.{Tree as Term, Trees as Terms, number, applied, none as no_terms, more as more_terms}
use Rattle.file_rules.specs.Table.{Table}
use Rattle.table_rules.specs.Rules.Rows.{function_of, table_row_of}

-- The literal of an index.
abbrev pub literal_of : Table → ℕ → ℤ
literal_of t i = get_or t.literals i (pos 0)

-- The name of a row's function.
abbrev pub name_of : Table → ℕ → List ℕ
name_of t r = (function_of t (table_row_of t r).function).name

-- A literal stands for itself, a row for its function's name applied to its children's terms. Rows are numbered as in
-- the file.
unfoldable mutual
  pub term_of : Table → Tree → Term
  term_of t (leaf i) = number (literal_of t i)
  term_of t (node r f) = applied (name_of t r) (terms_of t f)

  pub terms_of : Table → Forest → Terms
  terms_of t none = no_terms
  terms_of t (more u f) = more_terms (term_of t u) (terms_of t f)
