-- A store as the structs have it by which it is lent and read. Assumes nothing: definitions.
use Rattle.term_rules.specs.Lent.{store, Store as Stored}
use Rattle.term_layout.specs.declared.lent.Lent.{Lent}
use Rattle.term_layout.specs.declared.store.Store.{Store}

-- The store that is lent.
abbrev pub lent_of : Lent → Stored
lent_of s = store s.records.now s.literals.now s.names.now s.terms s.symbols

-- The store that is read, which is well formed.
abbrev pub store_of : Store → Stored
store_of s = store s.records.now s.literals.now s.names.now s.terms s.symbols
