-- `text::is_prefix` meets its contract: its length, and its bytes. Assumes nothing.
use mathlib.Core.Path.{sym, ◌∙◌}
use lib.ListN.{length}
use borrow.Author.Tests.{lt-leb}
use Rattle.text.proofs.LetToldLaws.{prefix-long, prefix-allowed}
use Rattle.text.proofs.is_prefix.Goals as goal

pub returns-then-s-le31 : goal.returns-then-s-le31
returns-then-s-le31 c = c.all_allowed.ensures ∙ sym (prefix-allowed c.args.s.now c.if-s-le31.true)

pub returns-else-s-le31 : goal.returns-else-s-le31
returns-else-s-le31 c =
    lt-leb (length c.args.s.now) 31 c.if-s-le31.false ∙ sym (prefix-long c.args.s.now c.if-s-le31.false)
