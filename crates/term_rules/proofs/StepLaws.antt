-- What adding a name does, by whether the name is there. Assumes nothing.
use Prim.Native.Nat.{ℕ, ◌+◌}
use mathlib.Core.Path.{◌≡◌, refl}
use mathlib.Core.Bool.{Bool, true, false}
use mathlib.Core.List.{List}
use lib.Dec.{ltb}
use Rattle.name.specs.Entries.{find_name, put_name}
use Rattle.std.specs.Prelude.{Option, Some, None}
use Rattle.term_rules.specs.Lent.{Store, store, symbol_room}
use Rattle.term_rules.specs.Adding.{find_symbol, symbol_for, with_name, room_for_name}

module _ (s : Store) (name : List ℕ) where
  module _ (k : ℕ) (e : find_symbol s name ≡ Some k) where
    pub symbol_for-old : symbol_for s name ≡ k
    unfolding symbol_for
    symbol_for-old = rw (e, symbol_for)

    pub with_name-old : with_name s name ≡ s
    unfolding with_name
    with_name-old = rw (e, with_name)

    pub room_for_name-old : room_for_name s name ≡ true
    unfolding room_for_name
    room_for_name-old = rw (e, room_for_name)

  module _ (e : find_symbol s name ≡ None) where
    pub symbol_for-new : symbol_for s name ≡ s.symbols
    unfolding symbol_for
    symbol_for-new = rw (e, symbol_for)

    pub with_name-new :
        with_name s name
        ≡ store s.records s.literals (put_name s.names s.symbols name) s.terms (s.symbols + 1)
    unfolding with_name
    with_name-new = rw (e, with_name)

    pub room_for_name-new : room_for_name s name ≡ ltb s.symbols (symbol_room s)
    unfolding room_for_name
    room_for_name-new = rw (e, room_for_name)
