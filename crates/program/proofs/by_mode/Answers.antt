-- `program::by_mode` meets its contract: the call that the mode asks for. Assumes nothing.
use borrow.Author.Tests.{eq-eqb, ne_eqb}
use Rattle.program.proofs.AnswerLaws.{best-by-mode, variants-by-mode}
use Rattle.program.proofs.by_mode.Goals as goal

pub returns-then-mode-eq1 : goal.returns-then-mode-eq1
returns-then-mode-eq1 c =
    variants-by-mode c.args.mode c.args.sort c.args.value c.args.most c.args.file.now
    c.args.out.now c.variants_of.result
    c.variants_of.new.out
    (eq-eqb c.args.mode 1 c.if-mode-eq1.true) c.variants_of.ensures

pub returns : goal.returns
returns c =
    best-by-mode c.args.mode c.args.sort c.args.value c.args.most c.args.file.now
    c.args.out.now c.best_of.result c.best_of.new.out
    (ne_eqb c.args.mode 1 c.if-mode-eq1.false) c.best_of.ensures
