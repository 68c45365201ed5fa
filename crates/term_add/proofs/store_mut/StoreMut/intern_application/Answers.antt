-- `StoreMut::intern_application` meets its contract. The application is looked for, and appended if it is not there. Assumes
-- nothing.
use mathlib.Core.Path.{sym, ◌∙◌}
use Rattle.term_rules.specs.Nodes.{application}
use Rattle.term_add.specs.Held.{held}
use Rattle.term_add.proofs.AppendLaws.{valid-short, add-new-application}
use Rattle.term_add.proofs.HeldLaws.{gains-as, gains-there}
use Rattle.term_add.proofs.store_mut.StoreMut.intern_application.Goals as goal

pub returns-clause-gains : goal.returns-clause-gains
returns-clause-gains c =
    gains-there (held c.args.self.now) (application c.args.name.now c.args.children.now)
    (sym (rw c.read.ensures at c.find_application.ensures) ∙ c.in-Some.is)

pub append_named-requires-clause-name_len_bound : goal.append_named-requires-clause-name_len_bound
append_named-requires-clause-name_len_bound c = valid-short c.args.name.now c.requires.named

pub returns-in_default-clause-gains : goal.returns-in_default-clause-gains
returns-in_default-clause-gains c =
    gains-as
    (add-new-application (held c.args.self.now) c.args.name.now c.args.children.now
    (sym (rw c.read.ensures at c.find_application.ensures) ∙ c.in_default.is))
    c.append_named.ensures.gains
