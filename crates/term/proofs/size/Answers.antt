-- `term::size` meets its contract. The store is checked. Assumes nothing.
use mathlib.Core.Path.{ap, ◌∙◌}
use Rattle.std.proofs.lemmas.Result.{err_from_is_err_and}
use Rattle.term_rules.specs.Lent.{Store}
use Rattle.term_layout.specs.Sound.{lent_of}
use Rattle.term.specs.Answers.{given}
use Rattle.term.proofs.CallLaws.{size-refuses, size-given}
use Rattle.term.proofs.size.Goals as goal

pub returns-in_err-store : goal.returns-in_err-store
returns-in_err-store c =
    let p = err_from_is_err_and c.from_residual.result c.from_residual.ensures.1 in
    rw (p.1, p.2) (size-refuses (lent_of c.args.lent.now) _ c.in_err-store.ensures.faults)

pub returns : goal.returns
returns c =
    ap (λ (s : Store). given s.terms) c.in_ok-store.ensures.same
    ∙ size-given (lent_of c.args.lent.now) c.in_ok-store.ensures.faults
