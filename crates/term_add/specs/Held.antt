-- What adding to a lent store answers, and what it leaves. Assumes nothing: these are definitions.
use Rattle.std.specs.Prelude.{ℕ, ◌≡◌, List, Option, Some, None, cond}
use Rattle.term_rules.specs.Lent.{Store, store}
use Rattle.term_rules.specs.Adding.{Adds, at, no_room, with_name, symbol_for, room_for_name}
use Rattle.term_add.specs.declared.store_mut.StoreMut.{StoreMut}

-- the store as it stands behind what is lent
abbrev pub held : StoreMut → Store
held s = store s.records.now s.literals.now s.names.now s.terms s.symbols

-- the same three are lent
pub record SameLoans (a b : StoreMut) : Type 0 where
  pub records : b.records.ghost_name ≡ a.records.ghost_name
  pub literals : b.literals.ghost_name ≡ a.literals.ghost_name
  pub names : b.names.ghost_name ≡ a.names.ghost_name

-- the answer of a call that adds, with the store that it left
abbrev pub seen_gain : Option ℕ → Store → Adds
seen_gain (Some i) t = at i t
seen_gain None t = no_room

-- the answer is the wanted one, and nothing is changed where there is no room
pub record Gains (s : Store) (wanted : Adds) (r : Option ℕ) (t : Store) : Type 0 where
  pub answer : seen_gain r t ≡ wanted
  pub kept : r ≡ None → t ≡ s

-- the name's number, where it is there or there is room for it; it is put if it is new
pub record Names (s : Store) (name : List ℕ) (r : Option ℕ) (t : Store) : Type 0 where
  pub answer : r ≡ cond (room_for_name s name) (Some (symbol_for s name)) None
  pub left : t ≡ cond (room_for_name s name) (with_name s name) s
