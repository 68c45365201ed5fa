-- `counted::variants` meets its contract: the call's answer, with the counts that the store has then. Assumes nothing.
use mathlib.Core.Path.{sym}
use Rattle.std.proofs.lemmas.Result.{err_from_is_err_and}
use Rattle.term_rules.specs.Lent.{store}
use Rattle.term_add.specs.Held.{held}
use Rattle.variant_answers.specs.Kept.{lending}
use Rattle.lent_extract.proofs.CountedLaws.{variants-refused}
use Rattle.lent_extract.proofs.counted.variants.Goals as goal

pub returns-in_err-kept : goal.returns-in_err-kept
returns-in_err-kept c =
    let g = c.args in
    let s = store g.records.now g.literals.now g.names.now g.terms g.symbols in
    let p = err_from_is_err_and c.from_residual.result c.from_residual.ensures.1 in
    let q = c.in_err-kept in
    let rs = q.records-1-own.given.1.1 (sym q.ensures.loans.records) in
    let ls = q.literals-1-own.given.1.1 (sym q.ensures.loans.literals) in
    let ns = q.names-1-own.given.1.1 (sym q.ensures.loans.names) in
    let e = rw (← p.2) at q.ensures.variants in
    rw (rs, ls, ns) (
    variants-refused g.file.now g.sort g.value g.most (lending s g.costs.now g.found.now) (held c.variants.new.store)
    c.variants.new.costs c.variants.new.found c.from_residual.result p.0 p.1 e)
