-- What searching and adding answer, and what they leave. Assumes nothing: these are definitions.
use Rattle.std.specs.Prelude.{ℕ, min, ◌≡◌, Bool, true, false, ◌&&◌, List, [], length, take, Option, Some, None, eqb, ltb, ℤ, pos}
use Rattle.name.specs.Name.{same}
use Rattle.name.specs.Entries.{entry_room}
use Rattle.term_rules.specs.declared.Term.{Term}
use Rattle.term_rules.specs.Lent.{Store, store, record_room, record_in, term_room}
use Rattle.term_rules.specs.WellFormed.{same_int}
use Rattle.term_rules.specs.Adding.{Adds, at, no_room, with_name, with_record, symbol_for, room_for_name}
use Rattle.term_record.specs.Flat.{filled}
use Rattle.term_add.specs.declared.Added.{Added}

-- whether a record has this kind, symbol and literal, and these children
unfoldable pub has : Term → ℕ → ℕ → ℤ → List ℕ → Bool
has t kind symbol z ks =
    eqb t.kind kind
    && (eqb t.symbol symbol
    && (eqb t.count (length ks) && (same_int t.literal z && same (take (length ks) t.children) ks)))

abbrev pub has_at : List ℕ → List ℤ → ℕ → ℕ → ℤ → List ℕ → ℕ → Bool
has_at rs ls kind symbol z ks i = has (record_in rs ls i) kind symbol z ks

-- whether one more record, or one more name, fits these lengths
abbrev pub room_in : ℕ → ℕ → ℕ → Bool
room_in records literals terms = ltb terms (min 1024 (min (record_room records) literals))

abbrev pub name_room_in : ℕ → ℕ → Bool
name_room_in names symbols = ltb symbols (min 128 (entry_room names))

-- the answer of a call, with the lists that it left
abbrev pub seen_added : Option Added → List ℕ → List ℤ → List ℕ → Adds
seen_added (Some a) rs ls ns = at a.term (store rs ls ns a.terms a.symbols)
seen_added None rs ls ns = no_room

-- the answer is the wanted one, and nothing is changed where there is no room
pub record Leaves (s : Store) (wanted : Adds) (r : Option Added) (rs : List ℕ) (ls : List ℤ) (ns : List ℕ) : Type 0 where
  pub answer : seen_added r rs ls ns ≡ wanted
  pub kept : r ≡ None → store rs ls ns s.terms s.symbols ≡ s

-- appending a record that has a name
unfoldable pub append_named : Store → ℕ → List ℕ → List ℕ → Adds
append_named s kind name ks =
    elim (ltb s.terms (term_room s) && room_for_name s name) [
      | true ↦ at s.terms (with_record (with_name s name) (filled kind (symbol_for s name) (pos 0) ks))
      | false ↦ no_room
    ]

-- appending a literal's record
unfoldable pub append_literal : Store → ℤ → Adds
append_literal s z =
    elim (ltb s.terms (term_room s)) [
      | true ↦ at s.terms (with_record s (filled 0 0 z []))
      | false ↦ no_room
    ]
