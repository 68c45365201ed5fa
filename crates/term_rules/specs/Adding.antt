-- Adding a term to a well-formed store: document 01, 'Terms'. Assumes nothing: these are definitions.
use Rattle.std.specs.Prelude.{ℕ, zero, suc, ◌+◌, Bool, true, false, ◌&&◌, List, [], ◌∷◌, set, ltb}
use Rattle.name.specs.Entries.{find_name, put_name}
use Rattle.std.specs.Prelude.{Option, Some, None}
use Rattle.term_rules.specs.declared.Term.{Term}
use Rattle.term_rules.specs.Lent.{Store, store, put_record, term_room, symbol_room}
use Rattle.term_rules.specs.Nodes.{Node, literal, variable, application, node_at, same_node, record_of}

-- the first number from i on, of n numbers, that passes
unfoldable pub first_from : (ℕ → Bool) → ℕ → ℕ → Option ℕ
first_from p i zero = None
first_from p i (suc n) = elim (p i) [ true ↦ Some i | false ↦ first_from p (i + 1) n ]

-- the number of the term, if it is there
unfoldable pub find_term : Store → Node → Option ℕ
find_term s node = first_from (λ (i : ℕ). same_node (node_at s i) node) 0 s.terms

-- the symbol number of a name, if it has one
abbrev pub find_symbol : Store → List ℕ → Option ℕ
find_symbol s name = find_name s.names s.symbols name

-- the symbol number that the name has, or will have
unfoldable pub symbol_for : Store → List ℕ → ℕ
symbol_for s name = elim (find_symbol s name) [ Some k ↦ k | None ↦ s.symbols ]

-- the store with the name, "if new"
unfoldable pub with_name : Store → List ℕ → Store
with_name s name =
    elim (find_symbol s name) [
      | Some k ↦ s
      | None ↦
          store s.records s.literals (put_name s.names s.symbols name) s.terms (s.symbols + 1)
    ]

-- the store with one record more
unfoldable pub with_record : Store → Term → Store
with_record s t =
    store (put_record s.records s.terms t) (set s.literals s.terms t.literal) s.names (s.terms + 1)
    s.symbols

-- "append it, with its name if new"
unfoldable pub append : Store → Node → Store
append s (literal z) = with_record s (record_of 0 (literal z))
append s (variable n) = with_record (with_name s n) (record_of (symbol_for s n) (variable n))
append s (application n ks) = with_record (with_name s n) (record_of (symbol_for s n) (application n ks))

-- whether the name is there, or there is room for it
unfoldable pub room_for_name : Store → List ℕ → Bool
room_for_name s name = elim (find_symbol s name) [ Some k ↦ true | None ↦ ltb s.symbols (symbol_room s) ]

-- "NoRoom: new terms or names exceed the store's room"
unfoldable pub room_for : Store → Node → Bool
room_for s (literal z) = ltb s.terms (term_room s)
room_for s (variable n) = ltb s.terms (term_room s) && room_for_name s n
room_for s (application n ks) = ltb s.terms (term_room s) && room_for_name s n

-- the term's number and the store then, or that there is no room
pub data Adds : Type 0 where
  at : ℕ → Store → Adds
  no_room : Adds

-- "give the number of the term if it is already there, needing no room; else append it"
unfoldable pub add : Store → Node → Adds
add s node =
    elim (find_term s node) [
      | Some i ↦ at i s
      | None ↦ elim (room_for s node) [ true ↦ at s.terms (append s node) | false ↦ no_room ]
    ]
