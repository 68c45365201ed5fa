-- `texts::told_text` meets its contract. Assumes nothing.
use borrow.Author.Rules.{sfits_of}
use Rattle.c_told.proofs.texts.told_text.Goals as goal

pub overflow_cast-result : goal.overflow_cast-result
overflow_cast-result c = sfits_of (c.requires c.in-Ok.n c.in-Ok.is)
