-- `program::best_of` meets its contract: the call's refusal, or the text of what it found. Assumes nothing.
use mathlib.Core.Path.{ap, ◌∙◌}
use lib.ListN.{length}
use Rattle.std.proofs.lemmas.Result.{err_from_is_err_and}
use Rattle.refusal.specs.Answer.{value}
use Rattle.term_rules.specs.Lent.{Store}
use Rattle.answer_rules.specs.Best.{best_term}
use Rattle.program_rules.specs.Reply.{best_reply, in_room, put_in}
use Rattle.program.proofs.CallLaws.{best-refused, best-found, best-returns}
use Rattle.program.proofs.best_of.Goals as goal

pub read-requires : goal.read-requires
read-requires c = (best-returns c.args.file.now c.args.sort c.args.value c.in_ok-best.ensures.best).0

pub put-requires : goal.put-requires
put-requires c =
    let kept = best-returns c.args.file.now c.args.sort c.args.value c.in_ok-best.ensures.best in
    let n = ap (λ (s : Store). s.terms) c.read.ensures in
    record { term_lt_terms = rw (← n) at kept.1 }

pub returns-in_err-best : goal.returns-in_err-best
returns-in_err-best c =
    let p = err_from_is_err_and c.from_residual.result c.from_residual.ensures.1 in
    rw (p.1, p.2)
    (best-refused c.args.plain c.args.file.now c.args.sort c.args.value c.args.out.now _ _ c.in_err-best.ensures.best)

pub returns : goal.returns
returns c =
    let g = c.args in
    let b = best_term c.in_ok-best.best.cost c.in_ok-best.best.term c.in_ok-best.best.passes in
    best-found g.plain g.file.now g.sort g.value g.out.now _ _ _ _ c.put.result c.put.new.out
    c.in_ok-best.ensures.best
    (c.put.ensures
    ∙ ap (λ (s : Store). put_in (in_room (length g.out.now) (value (best_reply g.plain s b))) g.out.now) c.read.ensures)
