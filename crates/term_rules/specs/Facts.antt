-- What the layers above may rely on: the facts of a well-formed store, document 01, 'Terms'. Assumes nothing: these
-- are definitions.
use Rattle.std.specs.Prelude.{ℕ, ◌≤◌, ◌<◌, ◌≡◌, true, List, length, get_or, ℤ, pos}
use Rattle.name.specs.Name.{valid}
use Rattle.name.specs.Entries.{entries_length, length_at, name_at, byte_at}
use Rattle.term_rules.specs.declared.Term.{Term}
use Rattle.term_rules.specs.Lent.{Store, records_length, record_at, symbol_at}

-- "names valid": entry k holds a valid name, and zeros past it
pub record SoundName (ns : List ℕ) (k : ℕ) : Type 0 where
  pub short : length_at ns k ≤ 31
  pub allowed : valid (name_at ns k) ≡ true
  pub unused : (j : ℕ) → length_at ns k ≤ j → j < 31 → byte_at ns k j ≡ 0

-- "unused fields zero": a literal uses its literal alone
pub record IsLiteral (t : Term) : Type 0 where
  pub kind : t.kind ≡ 0
  pub symbol : t.symbol ≡ 0
  pub count : t.count ≡ 0
  pub unused : (j : ℕ) → get_or t.children j 0 ≡ 0

-- a variable uses its symbol alone: "every symbol number known"
pub record IsVariable (symbols : ℕ) (t : Term) : Type 0 where
  pub kind : t.kind ≡ 1
  pub symbol : t.symbol < symbols
  pub count : t.count ≡ 0
  pub literal : t.literal ≡ pos 0
  pub unused : (j : ℕ) → get_or t.children j 0 ≡ 0

-- an application uses its symbol and its first children: "every child lower than its parent"
pub record IsApplication (symbols i : ℕ) (t : Term) : Type 0 where
  pub kind : t.kind ≡ 2
  pub symbol : t.symbol < symbols
  pub count : t.count ≤ 8
  pub literal : t.literal ≡ pos 0
  pub lower : (j : ℕ) → j < t.count → get_or t.children j 0 < i
  pub unused : (j : ℕ) → t.count ≤ j → get_or t.children j 0 ≡ 0

-- the record of term i
pub data SoundRecord (symbols i : ℕ) (t : Term) : Type 0 where
  a_literal : IsLiteral t → SoundRecord symbols i t
  a_variable : IsVariable symbols t → SoundRecord symbols i t
  an_application : IsApplication symbols i t → SoundRecord symbols i t

-- "Well formed: counts within limits and lent lengths; names valid and distinct; every symbol number known; every child
-- lower than its parent; unused fields zero (records past the count are free); no two terms equal."
pub record Sound (s : Store) : Type 0 where
  pub term_limit : s.terms ≤ 1024
  pub records_long : records_length s.terms ≤ length s.records
  pub literals_long : s.terms ≤ length s.literals
  pub symbol_limit : s.symbols ≤ 128
  pub names_long : entries_length s.symbols ≤ length s.names
  pub name : (k : ℕ) → k < s.symbols → SoundName s.names k
  pub name_once : (j k : ℕ) → j < s.symbols → k < s.symbols → symbol_at s j ≡ symbol_at s k → j ≡ k
  pub term : (i : ℕ) → i < s.terms → SoundRecord s.symbols i (record_at s i)
  pub term_once : (i j : ℕ) → i < s.terms → j < s.terms → record_at s i ≡ record_at s j → i ≡ j
