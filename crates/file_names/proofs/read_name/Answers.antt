-- `file_names::read_name` meets its contract: a name is free in the table exactly when no function before has it.
-- Assumes nothing.
use mathlib.Core.Path.{sym, ◌∙◌}
use Rattle.bits.specs.Got.{pick}
use Rattle.file_rules.proofs.ReadingLaws.{reads-got, reads-refused, reads-exit}
use Rattle.file_names.proofs.EntriesLaws.{free-refused, free-name, free-taken}
use Rattle.file_names.proofs.read_name.Goals as goal

pub returns-in_err-n : goal.returns-in_err-n
returns-in_err-n c = reads-exit _ c.from_residual.ensures.1 (free-refused _ _ _ _ (sym c.in_err-n.ensures.answer))

pub returns : goal.returns
unfolding pick
returns c =
    let t = sym c.in_ok-n.ensures.answer in
    let p = c.put_new.ensures in
    reads-got (free-name _ _ _ _ t (sym p.value ∙ c.if-not-put_new.false))
    (record { put = rw c.if-not-put_new.false at p.entries_after })

pub returns-then-not-put_new : goal.returns-then-not-put_new
returns-then-not-put_new c =
    let t = sym c.in_ok-n.ensures.answer in
    reads-refused (free-taken _ _ _ _ t (sym c.put_new.ensures.value ∙ c.if-not-put_new.true))
