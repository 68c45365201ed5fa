-- What the store's calls are promised to give and to leave: document 01, 'Terms'. Assumes nothing: these are
-- definitions.
use Rattle.std.specs.Prelude.{ℕ, ◌+◌, ◌<◌, ◌≤◌, ◌≡◌, true, List, ◌⊎◌, length, get_or, take, drop}
use Rattle.name.specs.Entries.{entry_width, entries_length}
use Rattle.name.specs.Name.{valid}
use Rattle.term_rules.specs.Lent.{Store, width, records_length, symbol_at, term_room, symbol_room}
use Rattle.term_rules.specs.WellFormed.{well_formed}
use Rattle.term_rules.specs.Nodes.{Node, literal, variable, application, node_at}
use Rattle.term_rules.specs.Growing.{Takes}
use Rattle.term.specs.Answers.{Answer, given, refused}
use Rattle.term.specs.Orders.{Telling, never, must, Refuses}

-- term i is the node
abbrev pub IsTerm : Store → Node → ℕ → Type 0
IsTerm s node i = (i < s.terms) × (node_at s i ≡ node)

-- "already there"
abbrev pub There : Store → Node → Type 0
There s node = (i : ℕ) × IsTerm s node i

-- the name has a symbol number
abbrev pub Knows : Store → List ℕ → Type 0
Knows s n = (k : ℕ) × ((k < s.symbols) × (symbol_at s k ≡ n))

-- every number of the list is in the store
abbrev pub AllIn : Store → List ℕ → Type 0
AllIn s ks = (j : ℕ) → j < length ks → get_or ks j 0 < s.terms

-- room for one term more, and for its name if that is new
abbrev pub NameRoom : Store → List ℕ → Type 0
NameRoom s n = Knows s n ⊎ (s.symbols < symbol_room s)

abbrev pub Room : Store → Node → Type 0
Room s (literal z) = s.terms < term_room s
Room s (variable n) = (s.terms < term_room s) × NameRoom s n
Room s (application n ks) = (s.terms < term_room s) × NameRoom s n

-- The second list is the first, but for the places from a to before b.
pub record OnlyWithin {A : Type 0} (a b : ℕ) (l m : List A) : Type 0 where
  pub long : length m ≡ length l
  pub before : take a m ≡ take a l
  pub past : drop b m ≡ drop b l

-- "with its name if new": one name more, or none
pub record SameNames (s t : Store) : Type 0 where
  pub none_more : t.symbols ≡ s.symbols
  pub names : t.names ≡ s.names

pub record OneName (s : Store) (n : List ℕ) (t : Store) : Type 0 where
  pub one_more : t.symbols ≡ s.symbols + 1
  pub is : symbol_at t s.symbols ≡ n
  pub names : OnlyWithin (entries_length s.symbols) (entries_length s.symbols + entry_width) s.names t.names

abbrev pub NameAfter : Store → List ℕ → Store → Type 0
NameAfter s n t = (Knows s n → SameNames s t) × ((Knows s n → ⊥) → OneName s n t)

abbrev pub NamesAfter : Store → Node → Store → Type 0
NamesAfter s (literal z) t = SameNames s t
NamesAfter s (variable n) t = NameAfter s n t
NamesAfter s (application n ks) t = NameAfter s n t

-- "append it, with its name if new": exactly one record more; free records and free names are as they were
pub record Appended (s : Store) (node : Node) (t : Store) : Type 0 where
  pub one_more : t.terms ≡ s.terms + 1
  pub records : OnlyWithin (records_length s.terms) (records_length s.terms + width) s.records t.records
  pub literals : OnlyWithin s.terms (s.terms + 1) s.literals t.literals
  pub names : NamesAfter s node t

-- "give the number of the term if it is already there .. else append it": number i, and then store t
pub data Gives (s : Store) (node : Node) (i : ℕ) (t : Store) : Type 0 where
  old : IsTerm s node i → t ≡ s → Gives s node i t
  new : (There s node → ⊥) → i ≡ s.terms → Appended s node t → Gives s node i t

-- A call that adds a node, once what is asked of it holds. NoRoom comes last, and a term that is there needs none. A
-- number that is given has the node, in a well-formed store that keeps all terms (`Takes`).
pub record Adds (s : Store) (node : Node) (asked : Telling → Telling) (r : Answer ℕ × Store) : Type 0 where
  pub refusals : Refuses r.0 (asked (must (There s node ⊎ Room s node) 13 never))
  pub unchanged : (k : ℕ) → r.0 ≡ refused k → r.1 ≡ s
  pub takes : (i : ℕ) → r.0 ≡ given i → Takes s node i r.1
  pub gives : (i : ℕ) → r.0 ≡ given i → Gives s node i r.1

-- A call that looks a node up: what is found is the term, and Absent comes exactly when no number has it.
pub record Finds (s : Store) (node : Node) (asked : Telling → Telling) (a : Answer ℕ) : Type 0 where
  pub refusals : Refuses a (asked (must (There s node) 15 never))
  pub found : (i : ℕ) → a ≡ given i → IsTerm s node i

-- What is asked of a literal, a variable and an application: "Literal: 17", "Variable: 17, 4", "Application: 17, 4, 3,
-- 14", and then 13, or 15 for a lookup.
abbrev pub asks_literal : Store → Telling → Telling
asks_literal s rest = must (well_formed s ≡ true) 17 rest

abbrev pub asks_variable : Store → List ℕ → Telling → Telling
asks_variable s n rest =
    must (well_formed s ≡ true) 17
    (must (valid n ≡ true) 4
    rest)

abbrev pub asks_application : Store → List ℕ → List ℕ → Telling → Telling
asks_application s n ks rest =
    must (well_formed s ≡ true) 17
    (must (valid n ≡ true) 4
    (must (length ks ≤ 8) 3
    (must (AllIn s ks) 14
    rest)))
