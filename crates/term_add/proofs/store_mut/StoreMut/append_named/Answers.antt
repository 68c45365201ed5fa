-- `StoreMut::append_named` meets its contract. If there is room, the name, if new, and the record are written.
-- Assumes nothing.
use mathlib.Core.Path.{sym, ◌∙◌}
use borrow.Author.Tests.{not-true, not-false}
use Rattle.term_add.specs.Held.{held}
use Rattle.term_add.proofs.HeldLaws.{named-gains-none, no-name-gains, named-gains, names-room}
use Rattle.term_add.proofs.store_mut.StoreMut.append_named.Goals as goal

pub returns-then-not-has_room-clause-gains : goal.returns-then-not-has_room-clause-gains
returns-then-not-has_room-clause-gains c =
    named-gains-none (held c.args.self.now) c.args.kind c.args.name.now c.args.children.now
    (sym c.has_room.ensures ∙ c.if-not-has_room.true)

pub returns-in_err-symbol-clause-gains : goal.returns-in_err-symbol-clause-gains
returns-in_err-symbol-clause-gains c =
    rw c.from_residual.ensures (
    no-name-gains (held c.args.self.now) c.args.kind c.args.name.now c.args.children.now
    (sym c.has_room.ensures ∙ c.if-not-has_room.false) (rw c.in_err-symbol.was at c.symbol_for.ensures.named))

pub push-requires-clause-room : goal.push-requires-clause-room
push-requires-clause-room c =
    names-room (held c.args.self.now) c.args.kind c.args.name.now c.args.children.now
    (sym c.has_room.ensures ∙ c.if-not-has_room.false) c.symbol_for.ensures.named

pub returns-clause-gains : goal.returns-clause-gains
returns-clause-gains c =
    named-gains (held c.args.self.now) c.args.kind c.args.name.now c.args.children.now
    (sym c.has_room.ensures ∙ c.if-not-has_room.false) (rw c.in_ok-symbol.was at c.symbol_for.ensures.named)
    c.push.ensures.number c.push.ensures.pushed
