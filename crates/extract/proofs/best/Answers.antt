-- `extract::best` meets its contract: the table is loaded, then a literal or a class answered. Assumes nothing.
use mathlib.Core.Path.{ap, ◌∙◌}
use Rattle.std.specs.Prelude.{Ok}
use Rattle.std.proofs.lemmas.Result.{err_from_is_err_and}
use native.Mathlib.Omega.{arith}
use Rattle.term_add.specs.Held.{held}
use Rattle.table_rows.proofs.LoadLaws.{blank-of-empty}
use Rattle.table_roots.proofs.CallLaws.{space-of, refused-answer, literal-inside, literal-answer, some-class, class-answer}
use Rattle.extract.proofs.best.Goals as goal

pub load-requires : goal.load-requires
load-requires c =
    record {
      blank = blank-of-empty c.empty-table.ensures;
      space = space-of 1024 1025 8192 (omega arith) (omega arith) (omega arith);
    }

pub of_literal-requires : goal.of_literal-requires
of_literal-requires c =
    let a = c.args in
    let d = c.load in
    literal-inside a.file.now a.sort a.value d.result _ _ _ _ _ _ _ _ _ _ d.ensures _ (c.in_ok-loaded.was ∙ ap Ok c.in-Literal.is)

pub of_class-requires : goal.of_class-requires
of_class-requires c =
    let a = c.args in
    let d = c.load in
    some-class a.file.now a.sort a.value d.result _ _ _ _ _ _ _ _ _ _ d.ensures _ _ _ _ (c.in_ok-loaded.was ∙ ap Ok c.in-Class.is)

pub returns-in_err-loaded-clause-best : goal.returns-in_err-loaded-clause-best
returns-in_err-loaded-clause-best c =
    let a = c.args in
    let d = c.load in
    let p = err_from_is_err_and c.from_residual.result c.from_residual.ensures.1 in
    rw (p.1, p.2)
    (refused-answer a.file.now a.sort a.value d.result _ _ _ _ _ _ _ _ _ _ d.ensures _ c.in_err-loaded.was
    (held a.store.now))

pub returns-in_err-counted-in-Literal-clause-best : goal.returns-in_err-counted-in-Literal-clause-best
returns-in_err-counted-in-Literal-clause-best c =
    let a = c.args in
    let d = c.load in
    let q = c.from_residual-in_err-counted-in-Literal in
    let p = err_from_is_err_and q.result q.ensures.1 in
    rw (p.1, p.2)
    (literal-answer a.file.now a.sort a.value d.result _ _ _ _ _ _ _ _ _ _ d.ensures _ (c.in_ok-loaded.was ∙ ap Ok c.in-Literal.is)
    (held a.store.now) _ (rw c.in_err-counted-in-Literal.was at c.of_literal.ensures))

pub returns-in_ok-counted-in-Literal-clause-best : goal.returns-in_ok-counted-in-Literal-clause-best
returns-in_ok-counted-in-Literal-clause-best c =
    let a = c.args in
    let d = c.load in
    literal-answer a.file.now a.sort a.value d.result _ _ _ _ _ _ _ _ _ _ d.ensures _ (c.in_ok-loaded.was ∙ ap Ok c.in-Literal.is)
    (held a.store.now) _ (rw c.in_ok-counted-in-Literal.was at c.of_literal.ensures)

pub returns-in-Class-clause-best : goal.returns-in-Class-clause-best
returns-in-Class-clause-best c =
    let a = c.args in
    let d = c.load in
    class-answer a.file.now a.sort a.value d.result _ _ _ _ _ _ _ _ _ _ d.ensures _ _ _ _ (c.in_ok-loaded.was ∙ ap Ok c.in-Class.is)
    (held a.store.now) _ c.of_class.ensures.best
