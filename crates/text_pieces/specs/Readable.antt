-- The terms of a lent store as the texts read them. Assumes nothing: these are definitions.
use Rattle.std.specs.Prelude.{ℕ, ◌≤◌, ◌<◌, ◌≡◌, List, ◌∷◌, length, get_or, ℤ}
use Rattle.decimal.specs.Decimal.{literal_text}
use Rattle.name.specs.Entries.{InEntries}
use Rattle.term_rules.specs.Lent.{store, records_length, kind_at, symbol_no, arity_at, kids_at}
use Rattle.term_rules.specs.Nodes.{Node, literal, variable, application, node_at}

-- term t of the lent lists; a term's node does not depend on the counts
abbrev pub nodes : List ℕ → List ℤ → List ℕ → ℕ → Node
nodes rs ls ns t = node_at (store rs ls ns 0 0) t

-- every number of the list is below n
abbrev pub Inside : ℕ → List ℕ → Type 0
Inside n ks = (i : ℕ) → i < length ks → get_or ks i 0 < n

-- what a term's text starts with: a literal, a variable's name, a bracket and an application's name
abbrev pub head_text : Node → List ℕ
head_text (literal z) = literal_text z
head_text (variable n) = n
head_text (application n ks) = 40 ∷ n

-- what the texts rely on: the first n terms can be read, and their children are lower
pub record Readable (rs : List ℕ) (ls : List ℤ) (ns : List ℕ) (n : ℕ) : Type 0 where
  pub few : n ≤ 1024
  pub in_records : records_length n ≤ length rs
  pub in_literals : n ≤ length ls
  pub kind : (t : ℕ) → t < n → kind_at rs t ≤ 2
  pub arity : (t : ℕ) → t < n → arity_at rs t ≤ 8
  pub leaf : (t : ℕ) → t < n → kind_at rs t < 2 → arity_at rs t ≡ 0
  pub lower : (t : ℕ) → t < n → Inside t (kids_at rs t)
  pub name : (t : ℕ) → t < n → 0 < kind_at rs t → InEntries ns (symbol_no rs t)
