-- `StoreMut::symbol_for` meets its contract: the name is there, or there is no room for it, or it is put. Assumes nothing.
use Prim.Native.Nat.{ℕ}
use mathlib.Core.List.{List}
use mathlib.Core.Path.{◌≡◌, sym, ap, ◌∙◌}
use borrow.Author.Tests.{not-true, not-false}
use lib.ListN.{length}
use native.Mathlib.Omega.{arith}
use Rattle.std.specs.Prelude.{Option}
use Rattle.term_rules.specs.Lent.{Store}
use Rattle.term_rules.specs.Adding.{find_symbol}
use Rattle.term_rules.proofs.FactsLaws.{sound-of-well_formed}
use Rattle.term_add.specs.Held.{held}
use Rattle.term_add.proofs.MatchLaws.{entries-sound}
use Rattle.term_add.proofs.AppendLaws.{name-room-get}
use Rattle.term_add.proofs.HeldLaws.{names-old, names-full, names-new}
use Rattle.term_add.proofs.store_mut.StoreMut.symbol_for.Goals as goal

-- what is found in the store that is read is found in the one that it was read of
found : (n : List ℕ) {r : Option ℕ} {s t : Store} → r ≡ find_symbol s n → s ≡ t → r ≡ find_symbol t n
found n e d = e ∙ ap (λ (x : Store). find_symbol x n) d

pub returns-clause-named : goal.returns-clause-named
returns-clause-named c =
    names-old (held c.args.self.now) c.args.name.now _ (sym (found c.args.name.now c.find_symbol.ensures c.read.ensures) ∙ c.in-Some.is)

pub returns-then-not-has_name_room-clause-named : goal.returns-then-not-has_name_room-clause-named
returns-then-not-has_name_room-clause-named c =
    names-full (held c.args.self.now) c.args.name.now
    (sym (found c.args.name.now c.find_symbol.ensures c.read.ensures) ∙ c.in_default.is)
    (sym c.has_name_room.ensures ∙ c.if-not-has_name_room.true)

pub put-requires-clause-has_entry : goal.put-requires-clause-has_entry
put-requires-clause-has_entry c =
    let r = name-room-get (length c.args.self.now.names.now) c.args.self.now.symbols
    (sym c.has_name_room.ensures ∙ c.if-not-has_name_room.false) in
    omega (arith, r.1)

pub returns-in_default-clause-named : goal.returns-in_default-clause-named
returns-in_default-clause-named c =
    rw c.put.ensures (
    names-new (held c.args.self.now) c.args.name.now
    (sym (found c.args.name.now c.find_symbol.ensures c.read.ensures) ∙ c.in_default.is)
    (sym c.has_name_room.ensures ∙ c.if-not-has_name_room.false))
