-- `StoreMut::intern_literal` meets its contract. The literal is looked for, and pushed if it is not there. Assumes
-- nothing.
use mathlib.Core.Path.{sym, ◌∙◌}
use mir.Syntax.{w64}
use mir.ValLaws.{to_z-of_z}
use Rattle.term_rules.specs.Nodes.{literal}
use Rattle.term_add.specs.Held.{held}
use Rattle.term_add.proofs.AppendLaws.{add-new-literal}
use Rattle.term_add.proofs.HeldLaws.{gains-as, gains-there, literal-gains-none, literal-gains}
use Rattle.term_add.proofs.store_mut.StoreMut.intern_literal.Goals as goal

pub returns-clause-gains : goal.returns-clause-gains
returns-clause-gains c =
    let e = to_z-of_z w64 c.args.literal c.ranges.literal in
    gains-there (held c.args.self.now) (literal c.args.literal)
    (sym (rw (e, c.read.ensures) at c.find_literal.ensures) ∙ c.in-Some.is)

pub returns-then-not-has_room-clause-gains : goal.returns-then-not-has_room-clause-gains
returns-then-not-has_room-clause-gains c =
    let e = to_z-of_z w64 c.args.literal c.ranges.literal in
    gains-as
    (add-new-literal (held c.args.self.now) c.args.literal
    (sym (rw (e, c.read.ensures) at c.find_literal.ensures) ∙ c.in_default.is))
    (literal-gains-none (held c.args.self.now) c.args.literal (sym c.has_room.ensures ∙ c.if-not-has_room.true))

pub returns-in_default-clause-gains : goal.returns-in_default-clause-gains
returns-in_default-clause-gains c =
    let e = to_z-of_z w64 c.args.literal c.ranges.literal in
    gains-as
    (add-new-literal (held c.args.self.now) c.args.literal
    (sym (rw (e, c.read.ensures) at c.find_literal.ensures) ∙ c.in_default.is))
    (literal-gains (held c.args.self.now) c.args.literal (sym c.has_room.ensures ∙ c.if-not-has_room.false)
    c.push.ensures.number (rw e at c.push.ensures.pushed))
