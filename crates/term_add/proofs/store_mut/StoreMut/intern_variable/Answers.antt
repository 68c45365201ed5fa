-- `StoreMut::intern_variable` meets its contract. The variable is looked for, and appended if it is not there. Assumes
-- nothing.
use mathlib.Core.Path.{sym, ◌∙◌}
use Rattle.term_rules.specs.Nodes.{variable}
use Rattle.term_add.specs.Held.{held}
use Rattle.term_add.proofs.AppendLaws.{valid-short, add-new-variable}
use Rattle.term_add.proofs.HeldLaws.{gains-as, gains-there}
use Rattle.term_add.proofs.store_mut.StoreMut.intern_variable.Goals as goal

pub returns-clause-gains : goal.returns-clause-gains
returns-clause-gains c =
    gains-there (held c.args.self.now) (variable c.args.name.now)
    (sym (rw c.read.ensures at c.find_variable.ensures) ∙ c.in-Some.is)

pub append_named-requires-clause-name_len_bound : goal.append_named-requires-clause-name_len_bound
append_named-requires-clause-name_len_bound c = valid-short c.args.name.now c.requires.named

pub returns-in_default-clause-gains : goal.returns-in_default-clause-gains
returns-in_default-clause-gains c =
    gains-as
    (add-new-variable (held c.args.self.now) c.args.name.now
    (sym (rw c.read.ensures at c.find_variable.ensures) ∙ c.in_default.is))
    c.append_named.ensures.gains
