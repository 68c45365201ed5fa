-- `counted::best` meets its contract: the call's answer, with the counts that the store has then. Assumes nothing.
use mathlib.Core.Path.{sym}
use Rattle.std.proofs.lemmas.Result.{err_from_is_err_and}
use Rattle.term_rules.specs.Lent.{store}
use Rattle.term_add.specs.Held.{held}
use Rattle.lent_extract.proofs.CountedLaws.{best-refused}
use Rattle.lent_extract.proofs.counted.best.Goals as goal

pub returns-in_err-best : goal.returns-in_err-best
returns-in_err-best c =
    let g = c.args in
    let s = store g.records.now g.literals.now g.names.now g.terms g.symbols in
    let p = err_from_is_err_and c.from_residual.result c.from_residual.ensures.1 in
    let q = c.in_err-best in
    let rs = q.records-1-own.given.1.1 (sym q.ensures.loans.records) in
    let ls = q.literals-1-own.given.1.1 (sym q.ensures.loans.literals) in
    let ns = q.names-1-own.given.1.1 (sym q.ensures.loans.names) in
    let e = rw (← p.2) at q.ensures.best in
    rw (rs, ls, ns) (
    best-refused g.file.now g.sort g.value s (held c.best.new.store) c.from_residual.result p.0 p.1 e)
